use Rattle.worked_examples.proofs.BackupLeft.{daily_leaves}
use Rattle.worked_examples.proofs.what_is_over_leaves.Goals as goal

pub returns : goal.returns
returns c = daily_leaves
