use Rattle.std.proofs.Common.{sym, ap, ◌∙◌}
use Rattle.plan_model.specs.Contents.{Operation}
use Rattle.plan_reasons.proofs.Resting.{none_held, some_held}
use Rattle.plan_reasons.proofs.single.held.Goals as goal

pub returns-then-operation : goal.returns-then-operation
returns-then-operation c P o m = some_held P o c.args.operation.now m (ap (λ (x : Operation). x.held) (sym c.operation.view_is) ∙ c.if-operation.true)

pub returns-else-operation : goal.returns-else-operation
returns-else-operation c P o m = none_held P o c.args.operation.now m (ap (λ (x : Operation). x.held) (sym c.operation.view_is) ∙ c.if-operation.false)
