use Rattle.plan_outlooks.proofs.LatestTimes.{IsLatestUpTo}
use Rattle.plan_outlooks.proofs.occurrences.latest_of.Given as goal

abbrev pub invariant-loop-place : goal.invariant-loop-place
invariant-loop-place l = IsLatestUpTo l.times l.first l.end l.place l.latest
