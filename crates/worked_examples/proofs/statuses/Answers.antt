use Rattle.worked_examples.proofs.Small.{first_arrives, second_waits}
use Rattle.worked_examples.proofs.statuses.Goals as goal

pub returns : goal.returns
returns c = record { first = first_arrives; second = second_waits }
