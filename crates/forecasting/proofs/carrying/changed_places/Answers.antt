use Rattle.std.proofs.Common.{refl, subst, List, IfOk}
use Rattle.plan_model.specs.Contents.{Contents}
use Rattle.plan_records.specs.declared.PlanRow.{PlanRow}
use Rattle.forecasting.specs.Following.{AreTouched}
use Rattle.forecasting.proofs.Followed.{none_touched}
use Rattle.forecasting.proofs.carrying.changed_places.Goals as goal

pub returns-in-Some : goal.returns-in-Some
returns-in-Some c =
    let r = c.changed_in.result in
    subst (λ (Q : Contents). IfOk r (λ places. AreTouched Q c.args.changes.now.rows.items places.items)) c.in-Some.ensures.contents
    (subst (λ (xs : List PlanRow). IfOk r (λ places. AreTouched c.in-Some.loaded.now xs places.items)) c.deref.ensures.value c.changed_in.ensures)

pub returns-in-None : goal.returns-in-None
returns-in-None c = none_touched c.args.plan.now.plan.contents (c.in-None.ensures.none refl) _ _ c.new.ensures.items
