use Rattle.std.proofs.Common.{sym, ◌∙◌, true≢false}
use Rattle.plan_opening.specs.Laws.{HeldAreWithoutReport, MarksAreAllowed}
use Rattle.plan_opening.proofs.soundness.verdict.rows_are_sound.Goals as goal
use Rattle.plan_opening.proofs.soundness.verdict.rows_are_sound.Goals.{then-marks_are_allowed, else-marks_are_allowed}

pub returns-then-held_are_without_report-clause-sound : goal.returns-then-held_are_without_report-clause-sound
returns-then-held_are_without_report-clause-sound c =
    let both : MarksAreAllowed c.args.contents.now × HeldAreWithoutReport c.args.contents.now = elim c.if-marks_are_allowed.branch [
      | then-marks_are_allowed w ↦ (c.marks_are_allowed.ensures.allowed.0 w.if-marks_are_allowed.true, w.held_are_without_report.ensures.0 (sym w.value-is ∙ c.if-held_are_without_report.true))
      | else-marks_are_allowed w ↦ absurd (true≢false (sym c.if-held_are_without_report.true ∙ w.value-is ∙ w.if-marks_are_allowed.false))
    ] in (
      λ yes. (both.0, both.1, c.occurrences_are_deleted_whole.ensures.0 yes),
      λ all. c.occurrences_are_deleted_whole.ensures.1 all.2,
    )
