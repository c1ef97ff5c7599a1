use Rattle.worked_examples.proofs.TrioRows.{choices_for_two_servers}
use Rattle.worked_examples.proofs.choices_for_two_servers.Goals as goal

pub returns : goal.returns
returns c = choices_for_two_servers
