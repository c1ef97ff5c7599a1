use Rattle.std.proofs.Common.{◌<◌, ℕ, get_or}
use Rattle.plan_basics.specs.Intervals.{IsInterval, OpenInterval}
use Rattle.small_requests.proofs.request_revisions.read_for_proof.Given as goal

-- those before the index are intervals
abbrev pub invariant-loop-interval : goal.invariant-loop-interval
invariant-loop-interval l = (k : ℕ) (d : OpenInterval) → k < l.interval-index → IsInterval (get_or l.intervals k d)
