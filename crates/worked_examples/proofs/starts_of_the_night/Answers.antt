use Rattle.worked_examples.proofs.NightBegun.{starts_that_count, third_lasts_an_hour}
use Rattle.worked_examples.proofs.starts_of_the_night.Goals as goal

pub returns-clause-lasts : goal.returns-clause-lasts
returns-clause-lasts c = third_lasts_an_hour

pub returns-clause-counts : goal.returns-clause-counts
returns-clause-counts c = starts_that_count
