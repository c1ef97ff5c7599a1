use Rattle.worked_examples.proofs.NightRefusals.{second_load}
use Rattle.worked_examples.proofs.second_load.Goals as goal

pub returns : goal.returns
returns c = second_load
