use Rattle.plan_laws.proofs.Choice.{one_ready_list}
use Rattle.plan_laws.proofs.one_ready_list.Goals as goal

pub returns : goal.returns
returns c = one_ready_list
