use Rattle.worked_examples.proofs.DailyStopped.{either_schedule, no_other_is_found, report_acts_once}
use Rattle.worked_examples.proofs.stopped_report.Goals as goal

pub returns : goal.returns
returns c = record { schedule = either_schedule; alone = no_other_is_found; once = report_acts_once }
