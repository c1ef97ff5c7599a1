use Rattle.plan_laws.proofs.Classes.{satisfied_by_status}
use Rattle.plan_laws.proofs.satisfied_by_status.Goals as goal

pub returns : goal.returns
returns c = satisfied_by_status
