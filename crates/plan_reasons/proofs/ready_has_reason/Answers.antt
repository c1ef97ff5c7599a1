use Rattle.plan_reasons.proofs.ReadyWaits.{ready_has_reason}
use Rattle.plan_reasons.proofs.ready_has_reason.Goals as goal

pub returns : goal.returns
returns c = ready_has_reason
