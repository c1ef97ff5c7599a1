use Rattle.worked_examples.proofs.NightReruns.{rerun_of_the_third, rerun_of_the_first}
use Rattle.worked_examples.proofs.reruns.Goals as goal

pub returns : goal.returns
returns c = record { third = rerun_of_the_third; first = rerun_of_the_first }
