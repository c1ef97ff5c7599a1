use Rattle.plan_laws.proofs.Latest.{each_has_one_latest_start}
use Rattle.plan_laws.proofs.each_has_one_latest_start.Goals as goal

pub returns : goal.returns
returns c = each_has_one_latest_start
