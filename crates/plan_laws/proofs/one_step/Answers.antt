use Rattle.plan_laws.proofs.Single.{one_step}
use Rattle.plan_laws.proofs.Repeating.{one_numbered_step, one_run}
use Rattle.plan_laws.proofs.one_step.Goals as goal

pub returns : goal.returns
returns c = record { plain = one_step; numbered = one_numbered_step; run = one_run }
