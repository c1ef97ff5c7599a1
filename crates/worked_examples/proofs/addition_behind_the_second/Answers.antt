use Rattle.worked_examples.proofs.BackupChosen.{backup_added}
use Rattle.worked_examples.proofs.addition_behind_the_second.Goals as goal

pub returns : goal.returns
returns c = backup_added
