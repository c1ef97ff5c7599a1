use Rattle.std.specs.FinMap.{entries}
use Rattle.plan_opening.specs.Laws.{IsHeldRightly}
use Rattle.plan_opening.proofs.EachRow.{IsSoBefore}
use Rattle.plan_opening.proofs.soundness.flags.held_are_without_report.Given as goal

-- the rows that are gone through are held rightly
abbrev pub invariant-loop-row : goal.invariant-loop-row
invariant-loop-row l = IsSoBefore (entries l.contents.operations) (λ o op. IsHeldRightly op) l.row-index
