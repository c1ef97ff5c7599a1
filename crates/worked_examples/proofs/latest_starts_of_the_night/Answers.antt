use Rattle.worked_examples.proofs.NightStarts.{latest_starts}
use Rattle.worked_examples.proofs.latest_starts_of_the_night.Goals as goal

pub returns : goal.returns
returns c = latest_starts
