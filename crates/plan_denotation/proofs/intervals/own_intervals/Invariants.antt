use Rattle.std.proofs.Common.{◌≡◌, take}
use Rattle.plan_drafts.specs.PlanItems.{intervals_of}
use Rattle.plan_denotation.proofs.intervals.own_intervals.Given as goal

abbrev pub invariant-loop-said : goal.invariant-loop-said
invariant-loop-said l = l.own.items ≡ intervals_of l.name (take l.said-index l.intervals)
