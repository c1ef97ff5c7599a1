use Rattle.plan_laws.proofs.Choosing.{some_choice}
use Rattle.plan_laws.proofs.some_choice.Goals as goal

pub returns : goal.returns
returns c = some_choice
