use Rattle.std.proofs.Common.{◌≡◌, ◌≤◌, ◌+◌, ℕ, sym, ◌∙◌, ap, subst, true≢false, Some, Decides}
use Rattle.plan_model.specs.Contents.{Operation}
use Rattle.forecasting.proofs.Dues.{decided, not_going}
use Rattle.forecasting.proofs.due.is_due.Goals as goal

pub returns-then-not-is_going_at : goal.returns-then-not-is_going_at
returns-then-not-is_going_at c = λ s o op same at times.
    not_going s c.args.loaded.now same o c.args.at (λ going. true≢false (sym ((c.is_going_at.ensures o op at).1 going) ∙ c.if-not-is_going_at.true))

pub returns : goal.returns
returns c = λ s o op same at times.
    let P = c.args.loaded.now in
    let x = c.reported_at-reported.result in
    let is = c.reported_at-reported.ensures o op at in
    let length_is : c.operation.inside.duration ≡ x.operation.now.duration = ap (λ (z : Operation). z.duration) c.operation.view_is in
    decided s P same o c.args.at x is c.args.since times c.has_lasted.result ((c.is_going_at.ensures o op at).0 c.if-not-is_going_at.false)
    (subst (λ d. Decides c.has_lasted.result ((k : ℕ) × (c.args.since ≡ Some k) × (k + d ≤ c.args.at))) length_is c.has_lasted.ensures)
