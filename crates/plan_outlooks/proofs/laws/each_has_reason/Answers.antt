use Rattle.plan_outlooks.proofs.EachReason.{each_has_reason}
use Rattle.plan_outlooks.proofs.laws.each_has_reason.Goals as goal

pub returns : goal.returns
returns c = each_has_reason
