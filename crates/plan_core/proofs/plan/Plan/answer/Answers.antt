use Rattle.std.proofs.Common.{◌≡◌, ◌∙◌, sym, ap, subst}
use Rattle.plan_records.specs.Answer.{accepted}
use Rattle.plan_records.specs.Step.{Step}
use Rattle.plan_core.proofs.Answering.{step_answers}
use Rattle.plan_core.proofs.plan.Plan.answer.Goals as goal
use Rattle.plan_core.specs.State.{PlanState, plan_after}

pub returns-in-Ok : goal.returns-in-Ok
returns-in-Ok c =
    let P = c.args.self.now.plan in
    let q = c.args.request.now in
    let p = c.in-Ok.prepared in
    let after = c.apply.new.self.plan in
    let is : after ≡ plan_after c.args.self.now p = c.apply.ensures.plan ∙ ap (λ (s : PlanState). plan_after s p) c.prepare.ensures.unchanged in
    step_answers P after q (accepted c.apply.result.items)
    (subst (λ Q. Step P q (accepted c.apply.result.items) Q) (sym is) (subst (λ os. Step P q (accepted os) (plan_after c.args.self.now p)) (sym c.apply.ensures.named) c.in-Ok.ensures.step))
