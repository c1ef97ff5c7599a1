use Rattle.plan_status.proofs.Naming.{naming_keeps_standings}
use Rattle.plan_status.proofs.naming_keeps_standings.Goals as goal

pub returns : goal.returns
returns c = naming_keeps_standings
