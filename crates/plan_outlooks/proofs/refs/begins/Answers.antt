use Rattle.std.proofs.Common.{sym, ◌∙◌, subst, true≢false}
use Rattle.plan_model.specs.Contents.{Contents}
use Rattle.plan_outlooks.specs.Forecasts.{Begins, IsOutstanding}
use Rattle.plan_outlooks.proofs.Deciding.{both_by, not_by, outstanding_by}
use Rattle.plan_outlooks.proofs.OperationRows.{at_plan}
use Rattle.plan_outlooks.proofs.refs.begins.Goals as goal

pub returns-then-is_outstanding : goal.returns-then-is_outstanding
returns-then-is_outstanding c = λ F o lent at.
    let P = c.args.refs.now.plan.now in
    let told = outstanding_by P c.read_for_proof.ensures.valid o c.status_at.result (c.status_at.ensures o at.0 (at_plan F c.args.refs.now lent c.args.place o at)) c.is_outstanding.result c.is_outstanding.ensures in
    both_by F o (subst (λ (R : Contents). IsOutstanding R o) lent.plan (told.0 c.if-is_outstanding.true)) c.has_begun.result (c.has_begun.ensures F o lent at)

pub returns-else-is_outstanding : goal.returns-else-is_outstanding
returns-else-is_outstanding c = λ F o lent at.
    let P = c.args.refs.now.plan.now in
    let told = outstanding_by P c.read_for_proof.ensures.valid o c.status_at.result (c.status_at.ensures o at.0 (at_plan F c.args.refs.now lent c.args.place o at)) c.is_outstanding.result c.is_outstanding.ensures in
    not_by (Begins F o) c.is_outstanding.result c.if-is_outstanding.false (λ begins. true≢false (sym (told.1 (subst (λ (R : Contents). IsOutstanding R o) (sym lent.plan) begins.0)) ∙ c.if-is_outstanding.false))
