use Rattle.std.proofs.Common.{refl, sym, subst, ap, ◌∙◌, Some}
use Rattle.std.proofs.lemmas.Option.{none-some}
use Rattle.plan_basics.specs.Keys.{Name}
use Rattle.plan_reasons.specs.Parts.{IsOfKind}
use Rattle.plan_reasons.specs.Places.{closed_by}
use Rattle.plan_reasons.proofs.Stations.{none_closed, some_closed}
use Rattle.plan_reasons.proofs.lacking.closed.Goals as goal

pub returns-in-Some : goal.returns-in-Some
returns-in-Some c P o op start name is = none_closed P o op c.args.at start c.args.workstation.now name is c.in-Some.field-0 ((c.in-Some.ensures c.in-Some.field-0).0 refl)

pub returns-in-None : goal.returns-in-None
returns-in-None c P o op start name is =
    let made = c.closed_by.ensures ∙ ap (λ (n : Name). closed_by n c.next_opening.result) c.name.ensures in
    subst (λ r. IsOfKind P o op c.args.at 4 (Some r)) (sym made)
    (some_closed P o op c.args.at start c.args.workstation.now name is c.next_opening.result (λ d has. none-some d ((c.in-None.ensures d).1 has)) c.next_opening.ensures)
