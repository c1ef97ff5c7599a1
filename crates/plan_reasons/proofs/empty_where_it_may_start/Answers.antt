use Rattle.plan_reasons.proofs.Emptying.{empty_where_it_may_start}
use Rattle.plan_reasons.proofs.empty_where_it_may_start.Goals as goal

pub returns : goal.returns
returns c = empty_where_it_may_start
