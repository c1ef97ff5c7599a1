use Rattle.std.proofs.Common.{take}
use Rattle.plan_reasons.proofs.Obstructing.{IsObstructed}
use Rattle.plan_reasons.proofs.busy.all_held.Given as goal

abbrev pub invariant-loop-need : goal.invariant-loop-need
invariant-loop-need l = IsObstructed l.key l.holdings.held (take l.need-index l.need-items) l.reasons.items
