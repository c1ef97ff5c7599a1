use Rattle.worked_examples.proofs.DayLoad.{load_names_first}
use Rattle.worked_examples.proofs.load_that_names.Goals as goal

pub returns : goal.returns
returns c = load_names_first
