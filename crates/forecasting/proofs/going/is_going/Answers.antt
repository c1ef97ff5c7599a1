use Rattle.std.proofs.Common.{◌≡◌, refl, sym, ◌∙◌, ap, true≢false, not}
use Rattle.plan_model.specs.Contents.{Operation}
use Rattle.forecasting.proofs.Deciding.{completing_going, going_completing, not_ready, ready_if, started_going}
use Rattle.forecasting.proofs.going.is_going.Goals as goal

pub returns-then-is_started : goal.returns-then-is_started
returns-then-is_started c = λ P o valid is. (λ _. started_going P o c.args.reported.now is (c.is_started.ensures.0 c.if-is_started.true), λ _. refl)

pub returns-then-not-is_ready : goal.returns-then-not-is_ready
returns-then-not-is_ready c = λ P o valid is. (
  λ e. absurd (true≢false (sym e)),
  λ going. absurd (not_ready P o c.args.reported.now is valid (sym c.is_ready.ensures ∙ c.if-not-is_ready.true)
      (going_completing P o c.args.reported.now is (λ e. true≢false (sym (c.is_started.ensures.1 e) ∙ c.if-is_started.false)) going).2),
)

pub returns-then-is_same : goal.returns-then-is_same
returns-then-is_same c =
    let x = c.args.reported.now in
    let flag : c.operation.inside.held ≡ x.operation.now.held = ap (λ (z : Operation). z.held) c.operation.view_is in
    let ready = sym c.is_ready.ensures ∙ c.if-not-is_ready.false in
    λ P o valid is. (
      completing_going P o x is (ready_if P o x is valid ready) (c.is_same.ensures.0 c.if-is_same.true) c.operation.inside.held flag,
      λ going. ap not (flag ∙ (going_completing P o x is (λ e. true≢false (sym (c.is_started.ensures.1 e) ∙ c.if-is_started.false)) going).1),
    )
