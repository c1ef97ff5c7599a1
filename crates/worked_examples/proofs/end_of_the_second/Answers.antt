use Rattle.worked_examples.proofs.NightEnds.{end_of_the_second}
use Rattle.worked_examples.proofs.end_of_the_second.Goals as goal

pub returns : goal.returns
returns c = end_of_the_second
