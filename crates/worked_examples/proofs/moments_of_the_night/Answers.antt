use Rattle.worked_examples.proofs.Moments.{moments_are}
use Rattle.worked_examples.proofs.moments_of_the_night.Goals as goal

pub returns : goal.returns
returns c = moments_are
