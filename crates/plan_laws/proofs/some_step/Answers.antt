use Rattle.plan_laws.proofs.Stepping.{some_step}
use Rattle.plan_laws.proofs.Running.{some_numbered_step, some_run}
use Rattle.plan_laws.proofs.some_step.Goals as goal

pub returns : goal.returns
returns c = record { plain = some_step; numbered = some_numbered_step; run = some_run }
