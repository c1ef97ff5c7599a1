use Rattle.worked_examples.proofs.TrioRows.{tick_that_names}
use Rattle.worked_examples.proofs.tick_that_names.Goals as goal

pub returns : goal.returns
returns c = tick_that_names
