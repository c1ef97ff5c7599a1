use Rattle.plan_reasons.proofs.ReadyWaits.{none_is_left_to_start}
use Rattle.plan_reasons.proofs.none_is_left_to_start.Goals as goal

pub returns : goal.returns
returns c = none_is_left_to_start
