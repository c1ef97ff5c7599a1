use Rattle.std.proofs.Common.{refl, subst, IfOk}
use Rattle.plan_model.specs.Contents.{Contents}
use Rattle.forecasting.specs.Adds.{AreLasting}
use Rattle.forecasting.proofs.First.{no_lasting}
use Rattle.forecasting.proofs.beginning.lasting_of.Goals as goal

pub returns-in-Some-clause-lasting : goal.returns-in-Some-clause-lasting
returns-in-Some-clause-lasting c =
    let r = c.lasting_turns.result in
    subst (λ (Q : Contents). IfOk r (λ t. AreLasting Q c.args.plan.now.plan.clock c.args.until t.items)) c.in-Some.ensures.contents
    (subst (λ m. IfOk r (λ t. AreLasting c.in-Some.loaded.now m c.args.until t.items)) c.clock-clock.ensures.value c.lasting_turns.ensures.lasting)

pub returns-in-None-clause-lasting : goal.returns-in-None-clause-lasting
returns-in-None-clause-lasting c = no_lasting c.args.plan.now.plan.contents (c.in-None.ensures.none refl) c.args.plan.now.plan.clock c.args.until _
