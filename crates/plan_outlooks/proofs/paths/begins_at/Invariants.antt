use Rattle.std.proofs.Common.{◌≡◌, ℕ, ◌<◌, get_or}
use Rattle.plan_basics.specs.Intervals.{OpenInterval}
use Rattle.plan_outlooks.proofs.paths.begins_at.Given as goal

-- no interval that was passed begins then
abbrev pub invariant-loop-interval : goal.invariant-loop-interval
invariant-loop-interval l = (k : ℕ) (d : OpenInterval) → k < l.interval-index → ¬ ((get_or l.interval-items k d).from ≡ l.moment)
