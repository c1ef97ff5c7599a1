use Rattle.std.proofs.Common.{◌≡◌, ◌++◌, drop, map}
use Rattle.std.specs.FinMap.{keys}
use Rattle.request_outcomes.proofs.remaining.their_operations.Given as goal
use Rattle.small_requests.specs.counted_records.specs.Leaving.{is_one_of}

-- whether the operations so far are theirs, and whether those that are left are, is so of all
abbrev pub invariant-loop-place : goal.invariant-loop-place
invariant-loop-place l =
    l.theirs.items ++ map (λ o. is_one_of l.occurrences o.occurrence) (drop l.place (keys l.uncounted.contents.now.operations)) ≡ map (λ o. is_one_of l.occurrences o.occurrence) (keys l.uncounted.contents.now.operations)
