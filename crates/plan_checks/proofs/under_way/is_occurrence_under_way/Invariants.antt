use Rattle.std.specs.FinMap.{entries}
use Rattle.plan_checks.proofs.Searching.{NoneBefore}
use Rattle.plan_checks.proofs.under_way.is_occurrence_under_way.Given as goal
use Rattle.plan_checks.specs.Commands.{IsItsUnderWay}

-- none of those that are gone through
abbrev pub invariant-loop-place : goal.invariant-loop-place
invariant-loop-place l = NoneBefore (entries l.outline.operations) (λ row. IsItsUnderWay l.outline l.occurrence row.0) l.place
