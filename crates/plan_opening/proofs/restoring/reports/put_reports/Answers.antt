use Rattle.std.proofs.Common.{sym, ap, ◌∙◌, subst, take}
use Rattle.plan_model.specs.Valid.{IsValid}
use Rattle.plan_opening.specs.Restoring.{reported, reported_by}
use Rattle.plan_opening.proofs.Reporting.{passed_over, reported_more}
use Rattle.plan_opening.proofs.restoring.reports.put_reports.Goals as goal
use Rattle.plan_opening.proofs.restoring.reports.put_reports.Goals.{in-Operation, in_default}

pub loop-row-preserved : goal.loop-row-preserved
loop-row-preserved c =
    let r = c.row-item.result in
    let more = reported_more c.args.rows.now c.loop-row.row-index r c.loop-row-test.true c.row-item.is c.args.contents.now in
    elim c.match-row.branch [
      | in-Operation w ↦ (
        w.contents-is ∙ w.put_report.ensures.reported ∙ ap (λ x. reported_by x c.loop-row.contents) (sym w.in-Operation.is) ∙ ap (reported_by r) c.loop-row.invariant.0 ∙ more,
        subst IsValid (sym w.contents-is) w.put_report.ensures.valid,
      )
      | in_default w ↦ (
        w.contents-is ∙ c.loop-row.invariant.0 ∙ sym (passed_over r w.in_default.not-Operation (reported (take c.loop-row.row-index c.args.rows.now) c.args.contents.now)) ∙ more,
        subst IsValid (sym w.contents-is) c.loop-row.invariant.1,
      )
    ]
