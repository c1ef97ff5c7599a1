use Rattle.plan_checks.proofs.Searching.{NoneBefore}
use Rattle.plan_checks.proofs.under_way.is_another_under_way.Given as goal
use Rattle.plan_checks.specs.Commands.{IsOtherUnderWay}

-- none of those that are gone through
abbrev pub invariant-loop-other : goal.invariant-loop-other
invariant-loop-other l = NoneBefore l.others (IsOtherUnderWay l.outline l.key) l.other-index
