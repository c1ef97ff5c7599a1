use Rattle.std.proofs.Common.{ap, inl, inr}
use Rattle.plan_records.specs.Changes.{operation_of}
use Rattle.plan_checks.proofs.Reporting.{asks_completion, asks_end, asks_flag, asks_interruption, asks_rerun, asks_start, asks_unknown, told_anywhere, told_here}
use Rattle.plan_checks.proofs.checks.check_reported.Goals as goal

pub check_started-requires : goal.check_started-requires
check_started-requires c = c.requires.reported c.in-Started.key (ap operation_of c.in-Started.is)

pub check_rerun-requires : goal.check_rerun-requires
check_rerun-requires c = c.requires.reported c.in-Rerun.key (ap operation_of c.in-Rerun.is)

pub returns-in-Started : goal.returns-in-Started
returns-in-Started c = told_here c.args.outline.now c.args.at (asks_start c.in-Started.is) c.requires.reported c.check_started.result c.check_started.ensures

pub returns-in-Ended : goal.returns-in-Ended
returns-in-Ended c = elim c.in-Ended.is [
  | inl e ↦ told_anywhere c.args.outline.now c.args.at (asks_end (inl e.1)) c.requires.reported c.check_ended.result c.check_ended.ensures
  | inr e ↦ told_anywhere c.args.outline.now c.args.at (asks_end (inr (e.1, e.2))) c.requires.reported c.check_ended.result c.check_ended.ensures
]

pub returns-in-Interrupted : goal.returns-in-Interrupted
returns-in-Interrupted c = told_anywhere c.args.outline.now c.args.at (asks_interruption c.in-Interrupted.is) c.requires.reported c.check_interrupted.result c.check_interrupted.ensures

pub returns-in-Unknown : goal.returns-in-Unknown
returns-in-Unknown c = told_anywhere c.args.outline.now c.args.at (asks_unknown c.in-Unknown.is) c.requires.reported c.check_undecided.result c.check_undecided.ensures

pub returns-in-Hold : goal.returns-in-Hold
returns-in-Hold c = elim c.in-Hold.is [
  | inl e ↦ told_anywhere c.args.outline.now c.args.at (asks_flag (inl e.1)) c.requires.reported c.check_flagged.result c.check_flagged.ensures
  | inr (inl e) ↦ told_anywhere c.args.outline.now c.args.at (asks_flag (inr (inl e.1))) c.requires.reported c.check_flagged.result c.check_flagged.ensures
  | inr (inr (inl e)) ↦ told_anywhere c.args.outline.now c.args.at (asks_flag (inr (inr (inl e.1)))) c.requires.reported c.check_flagged.result c.check_flagged.ensures
  | inr (inr (inr e)) ↦ told_anywhere c.args.outline.now c.args.at (asks_flag (inr (inr (inr e.1)))) c.requires.reported c.check_flagged.result c.check_flagged.ensures
]

pub returns-in-Rerun : goal.returns-in-Rerun
returns-in-Rerun c = told_here c.args.outline.now c.args.at (asks_rerun c.in-Rerun.is) c.requires.reported c.check_rerun.result c.check_rerun.ensures

pub returns-in-Complete : goal.returns-in-Complete
returns-in-Complete c = told_anywhere c.args.outline.now c.args.at (asks_completion c.in-Complete.is) c.requires.reported c.check_completed.result c.check_completed.ensures
