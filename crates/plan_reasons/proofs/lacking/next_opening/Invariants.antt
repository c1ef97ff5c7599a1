use Rattle.std.proofs.Common.{ℕ, ◌<◌, ◌≤◌, get_or}
use Rattle.plan_basics.specs.Intervals.{OpenInterval}
use Rattle.plan_reasons.proofs.lacking.next_opening.Given as goal

-- the intervals that were passed begin by then
abbrev pub invariant-loop-interval : goal.invariant-loop-interval
invariant-loop-interval l = (k : ℕ) (d : OpenInterval) → k < l.interval-index → (get_or l.interval-items k d).from ≤ l.at
