use Rattle.worked_examples.proofs.NightReports.{statuses_when_loaded, statuses_after_the_third, statuses_of_held, statuses_of_passed}
use Rattle.worked_examples.proofs.statuses_of_the_night.Goals as goal

pub returns : goal.returns
returns c = record { loaded = statuses_when_loaded; third_done = statuses_after_the_third; held = statuses_of_held; passed = statuses_of_passed }
