use Rattle.worked_examples.proofs.NightRefusals.{starts_while_closed}
use Rattle.worked_examples.proofs.starts_while_closed.Goals as goal

pub returns : goal.returns
returns c = starts_while_closed
