use Rattle.std.proofs.Common.{◌≤◌, ap, arith, length, subst}
use Rattle.plan_core.proofs.FromPlace.{fewer, length_occs, none_from, rest_from}
use Rattle.plan_core.proofs.lists.OccsIterator.next.Goals as goal
use Rattle.plan_opening.specs.plan_rows.specs.Sources.{IsSourceIfAny}
use Rattle.plan_core.specs.Views.{occ_views}

pub returns-then-place-occurrences-clause-steps : goal.returns-then-place-occurrences-clause-steps
returns-then-place-occurrences-clause-steps c =
    let s = c.in_ok-source.source in
    let size = length_occs s (subst IsSourceIfAny c.in_ok-source.was c.self.invariant) in
    let rows = ap length c.occurrences.ensures.rows in
    let past_rows = c.if-place-occurrences.true in
    let past : length (occ_views s) ≤ c.self.inside.place = omega (arith, past_rows, rows, size) in
    let none = none_from occ_views c.self.inside.place c.self.view_is c.in_ok-source.was past in
    (none, none)

pub returns : goal.returns
returns c =
    let rest = rest_from occ_views c.self.inside.place c.self.view_is c.in_ok-source.was c.occ_view.result c.occ_view.ensures in
    record { steps = rest; goes = record { on = λ finite. (tt, tt, fewer rest); keeps = tt; rests = λ finite. tt } }
