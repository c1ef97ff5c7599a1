use Rattle.plan_laws.proofs.Readying.{some_ready_list}
use Rattle.plan_laws.proofs.some_ready_list.Goals as goal

pub returns : goal.returns
returns c = some_ready_list
