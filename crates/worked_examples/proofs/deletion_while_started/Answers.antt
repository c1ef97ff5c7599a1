use Rattle.worked_examples.proofs.NightRefusals.{deletion_while_started}
use Rattle.worked_examples.proofs.deletion_while_started.Goals as goal

pub returns : goal.returns
returns c = deletion_while_started
