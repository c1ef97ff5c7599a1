use Rattle.std.proofs.Common.{◌≡◌, refl, sym, ◌∙◌, ap, false, true≢false, Some}
use Rattle.std.specs.FinMap.{get}
use Rattle.std.proofs.lemmas.Option.{same_Some}
use Rattle.plan_model.specs.Contents.{Contents, Operation}
use Rattle.plan_outlooks.specs.Forecasts.{StaysOut, is_unmarked}
use Rattle.plan_outlooks.proofs.Deciding.{not_by}
use Rattle.plan_outlooks.proofs.OperationRows.{at_last}
use Rattle.plan_outlooks.proofs.refs.stays_out.Goals as goal

pub returns-then-not-never_begins : goal.returns-then-not-never_begins
returns-then-not-never_begins c = λ F o lent at.
    not_by (StaysOut F o) false refl (λ h. true≢false (sym ((c.never_begins.ensures F o lent at).1 h.0) ∙ c.if-not-never_begins.true))

pub returns : goal.returns
returns c = λ F o lent at.
    let x = c.args.refs.now in
    let row = at_last F x lent c.args.place o at in
    let is = c.reported_at-reported.ensures o row.0 row.1 in
    let op = c.reported_at-reported.result.operation.now in
    let there : get F.last.plan.contents.operations o ≡ Some op = ap (λ (P : Contents). get P.operations o) (sym lent.last) ∙ is.operation in
    let mark : c.is_unmarked.result ≡ is_unmarked op.mark = c.is_unmarked.ensures ∙ ap (λ (z : Operation). is_unmarked z.mark) c.operation.view_is in
    let never = (c.never_begins.ensures F o lent at).0 c.if-not-never_begins.false in (
      (λ e. (never, (op, there, sym mark ∙ e))),
      (λ h. mark ∙ ap (λ (z : Operation). is_unmarked z.mark) (same_Some op h.1.0 (sym there ∙ h.1.1)) ∙ h.1.2),
    )
