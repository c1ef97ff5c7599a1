use Rattle.std.proofs.Common.{refl, sym, ◌∙◌, ap, false, true≢false, Some}
use Rattle.plan_outlooks.specs.Forecasts.{IsSinceUnknown}
use Rattle.plan_outlooks.proofs.Deciding.{not_by}
use Rattle.plan_outlooks.proofs.OperationRows.{since_at}
use Rattle.plan_outlooks.proofs.refs.is_since_unknown.Goals as goal

pub returns-then-not-is_going_at : goal.returns-then-not-is_going_at
returns-then-not-is_going_at c = λ F o lent at. not_by (IsSinceUnknown F o) false refl (λ h. true≢false (sym ((c.is_going_at.ensures F o lent at).1 h.0) ∙ c.if-not-is_going_at.true))

pub returns-then-not-is_untold : goal.returns-then-not-is_untold
returns-then-not-is_untold c = λ F o lent at. not_by (IsSinceUnknown F o) false refl (λ h. true≢false (sym ((c.is_untold.ensures F o lent at).1 h.1) ∙ c.if-not-is_untold.true))

pub returns : goal.returns
returns c = λ F o lent at.
    let x = c.args.refs.now in
    let since = since_at F x lent c.args.place o c.time_at.result at c.time_at.ensures in (
      (λ e. ((c.is_going_at.ensures F o lent at).0 c.if-not-is_going_at.false, (c.is_untold.ensures F o lent at).0 c.if-not-is_untold.false, sym since ∙ c.is_at.ensures.0 e ∙ ap Some lent.from)),
      (λ h. c.is_at.ensures.1 (since ∙ h.2 ∙ ap Some (sym lent.from))),
    )
