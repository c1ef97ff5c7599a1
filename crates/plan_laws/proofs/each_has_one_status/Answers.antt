use Rattle.plan_laws.proofs.Standing.{each_has_one_status}
use Rattle.plan_laws.proofs.each_has_one_status.Goals as goal

pub returns : goal.returns
returns c = each_has_one_status
