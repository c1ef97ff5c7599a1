use Rattle.plan_laws.proofs.Classes.{classes_of_status}
use Rattle.plan_laws.proofs.classes_of_status.Goals as goal

pub returns : goal.returns
returns c = classes_of_status
