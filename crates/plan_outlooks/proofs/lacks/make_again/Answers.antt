use Rattle.std.proofs.Common.{◌≡◌, sym, ◌∙◌, ap, subst, inl, inr}
use Rattle.plan_reasons.specs.plan_core.specs.State.{PlanState, plan_after}
use Rattle.plan_model.specs.Plan.{Plan}
use Rattle.plan_records.specs.Answer.{accepted}
use Rattle.plan_records.specs.Step.{Step}
use Rattle.plan_outlooks.proofs.Replaying.{not_refused}
use Rattle.plan_outlooks.proofs.lacks.make_again.Goals as goal

pub returns-in-Ok-clause-step : goal.returns-in-Ok-clause-step
returns-in-Ok-clause-step c =
    let P = c.args.plan.now.plan in
    let prepared = c.in-Ok.prepared in
    let after : c.apply.new.self.plan ≡ plan_after c.args.plan.now prepared = c.apply.ensures.plan ∙ ap (λ (p : PlanState). plan_after p prepared) c.prepare.ensures.unchanged in
    (prepared.named, subst (λ (Q : Plan). Step P c.args.request.now (accepted prepared.named) Q) (sym after) c.in-Ok.ensures.step)

pub returns-in-Err-clause-memory : goal.returns-in-Err-clause-memory
returns-in-Err-clause-memory c = elim c.in-Err.ensures.refused [
  | inl memory ↦ memory
  | inr step ↦ absurd (not_refused c.args.plan.now.plan c.requires.0 c.args.request.now c.requires.1 c.in-Err.refusal c.requires.2 step)
]
