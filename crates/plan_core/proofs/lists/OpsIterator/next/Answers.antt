use Rattle.std.proofs.Common.{◌≤◌, ap, arith, length, subst}
use Rattle.plan_core.proofs.FromPlace.{fewer, length_ops, none_from, rest_from}
use Rattle.plan_core.proofs.lists.OpsIterator.next.Goals as goal
use Rattle.plan_opening.specs.plan_rows.specs.Sources.{IsSourceIfAny}
use Rattle.plan_core.specs.Views.{op_views}

pub returns-then-place-operations-clause-steps : goal.returns-then-place-operations-clause-steps
returns-then-place-operations-clause-steps c =
    let s = c.in_ok-source.source in
    let size = length_ops s (subst IsSourceIfAny c.in_ok-source.was c.self.invariant) in
    let rows = ap length c.operations.ensures.rows in
    let past_rows = c.if-place-operations.true in
    let past : length (op_views s) ≤ c.self.inside.place = omega (arith, past_rows, rows, size) in
    let none = none_from op_views c.self.inside.place c.self.view_is c.in_ok-source.was past in
    (none, none)

pub returns : goal.returns
returns c =
    let rest = rest_from op_views c.self.inside.place c.self.view_is c.in_ok-source.was c.op_view.result c.op_view.ensures in
    record { steps = rest; goes = record { on = λ finite. (tt, tt, fewer rest); keeps = tt; rests = λ finite. tt } }
