use Rattle.plan_laws.proofs.Tabling.{rows_tell_plan}
use Rattle.plan_laws.proofs.rows_tell_plan.Goals as goal

pub returns : goal.returns
returns c = rows_tell_plan
