use Rattle.std.proofs.Common.{◌≤◌}
use Rattle.plan_basics.specs.declared.keys.OccKey.{OccKey}
use Rattle.plan_outlooks.specs.Forecasts.{Forecast}
use Rattle.plan_outlooks.specs.Lent.{IsLent}
use Rattle.plan_outlooks.specs.Spans.{AreOperationsOf}
use Rattle.plan_outlooks.proofs.Counting.{CountUpTo}
use Rattle.plan_outlooks.proofs.occurrences.never_of.Given as goal

-- so many of those that were passed, no more than these
abbrev pub invariant-loop-place : goal.invariant-loop-place
invariant-loop-place l =
    (l.first ≤ l.place) × (l.count ≤ l.place) × ((F : Forecast) (c : OccKey) → IsLent F l.refs → AreOperationsOf F.plan.contents c l.first l.end → CountUpTo F c l.place l.count)
