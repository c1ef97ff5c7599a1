use Rattle.std.proofs.Common.{take}
use Rattle.plan_reasons.proofs.TooLittle.{AreScarce}
use Rattle.plan_reasons.proofs.scarce.all_scarce.Given as goal

abbrev pub invariant-loop-need : goal.invariant-loop-need
invariant-loop-need l = AreScarce l.contents.resources l.holdings.held l.key (take l.need-index l.need-items) l.reasons.items
