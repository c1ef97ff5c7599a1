use Rattle.std.specs.FinMap.{entries}
use Rattle.plan_opening.specs.Laws.{HasMarkAllowed}
use Rattle.plan_opening.proofs.EachRow.{IsSoBefore}
use Rattle.plan_opening.proofs.soundness.marks.marks_are_allowed.Given as goal

-- the marks of the rows that are gone through are allowed
abbrev pub invariant-loop-row : goal.invariant-loop-row
invariant-loop-row l = IsSoBefore (entries l.contents.operations) (λ o op. HasMarkAllowed l.contents op) l.row-index
