use Rattle.std.proofs.Common.{ℕ, ◌<◌, get_or}
use Rattle.plan_basics.specs.Intervals.{OpenInterval}
use Rattle.extension_faults.specs.Warned.{HoldsAfter}
use Rattle.extension_faults.proofs.warning.some_holds.Given as goal

-- none of those so far does so
abbrev pub invariant-loop-interval : goal.invariant-loop-interval
invariant-loop-interval l = (k : ℕ) (d : OpenInterval) → k < l.interval-index → ¬ HoldsAfter l.operation l.clock (get_or l.intervals k d)
