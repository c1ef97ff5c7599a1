use Rattle.plan_laws.proofs.Running.{plan_answers}
use Rattle.plan_laws.proofs.plan_answers.Goals as goal

pub returns : goal.returns
returns c = plan_answers
