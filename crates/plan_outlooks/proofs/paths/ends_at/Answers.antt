use Rattle.std.proofs.Common.{sym, ◌∙◌, ap, subst, true≢false, not}
use Rattle.std.proofs.lemmas.Bool.{false_from_ne_true}
use Rattle.plan_model.specs.Contents.{Contents}
use Rattle.plan_model.specs.Status.{HasStatus}
use Rattle.status_rules.specs.declared.Status.TheVariants.{Complete}
use Rattle.plan_outlooks.specs.Paths.{EndsAt}
use Rattle.plan_outlooks.proofs.Deciding.{complete_by, not_by, not_true}
use Rattle.plan_outlooks.proofs.OperationRows.{at_plan, done_at, of_row}
use Rattle.plan_outlooks.proofs.paths.ends_at.Goals as goal

pub returns-then-is_at : goal.returns-then-is_at
returns-then-is_at c = λ F o lent at.
    let x = c.args.refs.now in
    let is = c.is_complete.result in
    let told = complete_by x.plan.now c.read_for_proof.ensures.valid o c.status_at.result (c.status_at.ensures o at.0 (at_plan F x lent c.args.place o at)) is c.is_complete.ensures in
    let done = done_at F x lent c.args.place o c.time_at.result at c.time_at.ensures in (
      (λ e. (
        (at.0, of_row F.plan.contents c.args.place o at.0 at.1, tt),
        (λ h. true≢false (sym (told.1 (subst (λ (R : Contents). HasStatus R o Complete) (sym lent.plan) h)) ∙ not_true is e)),
        sym done ∙ c.is_at.ensures.0 c.if-is_at.true,
      )),
      (λ ends. ap not (false_from_ne_true is (λ e. ends.1 (subst (λ (R : Contents). HasStatus R o Complete) lent.plan (told.0 e))))),
    )

pub returns-else-is_at : goal.returns-else-is_at
returns-else-is_at c = λ F o lent at.
    let done = done_at F c.args.refs.now lent c.args.place o c.time_at.result at c.time_at.ensures in
    not_by (EndsAt F c.args.moment o) c.is_at.result c.if-is_at.false (λ ends. true≢false (sym (c.is_at.ensures.1 (done ∙ ends.2)) ∙ c.if-is_at.false))
