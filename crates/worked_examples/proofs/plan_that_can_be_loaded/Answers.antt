use Rattle.worked_examples.proofs.DayLoad.{day_is_draft}
use Rattle.worked_examples.proofs.plan_that_can_be_loaded.Goals as goal

pub returns : goal.returns
returns c = day_is_draft
