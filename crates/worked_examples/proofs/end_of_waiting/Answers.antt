use Rattle.worked_examples.proofs.Small.{end_is_refused}
use Rattle.worked_examples.proofs.end_of_waiting.Goals as goal

pub returns : goal.returns
returns c = end_is_refused
