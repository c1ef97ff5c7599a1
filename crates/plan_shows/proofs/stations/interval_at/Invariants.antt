use Rattle.std.proofs.Common.{ℕ, ◌<◌, get_or}
use Rattle.plan_basics.specs.Intervals.{IsOpenAt, OpenInterval}
use Rattle.plan_shows.proofs.stations.interval_at.Given as goal

-- none that was passed contains the minute
abbrev pub invariant-loop-interval : goal.invariant-loop-interval
invariant-loop-interval l = (k : ℕ) (d : OpenInterval) → k < l.interval-index → ¬ IsOpenAt (get_or l.interval-items k d) l.at
