use Rattle.std.proofs.Common.{inr, subst, sym}
use Rattle.plan_basics.specs.Refusals.{NoneRefuses}
use Rattle.plan_records.specs.Acceptance.{MayBeAccepted}
use Rattle.plan_records.specs.declared.Request.{Request}
use Rattle.desk_tables.proofs.Rooms.{limit_refuses}
use Rattle.desk_tables.proofs.numbering.preparing.refused_without_room.Goals as goal

pub returns-in_default-clause-least : goal.returns-in_default-clause-least
returns-in_default-clause-least c = inr (λ T n is full.
    let P = c.args.plan.now.plan in
    let free : NoneRefuses (MayBeAccepted P n.request) = subst (λ (q : Request). NoneRefuses (MayBeAccepted P q)) (sym is) c.in_default.ensures.step.none_refuses in
    limit_refuses P T n full (λ lower less. free lower))
