use Rattle.worked_examples.proofs.NightLoad.{load_of_the_night}
use Rattle.worked_examples.proofs.load_of_the_night.Goals as goal

pub returns : goal.returns
returns c = load_of_the_night
