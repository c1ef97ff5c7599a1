use Rattle.plan_laws.proofs.Waiting.{each_has_one_occurrence_status}
use Rattle.plan_laws.proofs.each_has_one_occurrence_status.Goals as goal

pub returns : goal.returns
returns c = each_has_one_occurrence_status
