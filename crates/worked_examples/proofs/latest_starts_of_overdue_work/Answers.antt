use Rattle.worked_examples.proofs.OverdueStarts.{latest_starts}
use Rattle.worked_examples.proofs.latest_starts_of_overdue_work.Goals as goal

pub returns : goal.returns
returns c = latest_starts
