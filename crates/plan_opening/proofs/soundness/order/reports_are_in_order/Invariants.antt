use Rattle.std.specs.FinMap.{entries}
use Rattle.plan_opening.specs.Laws.{IsReportedInOrder}
use Rattle.plan_opening.proofs.EachRow.{IsSoBefore}
use Rattle.plan_opening.proofs.soundness.order.reports_are_in_order.Given as goal

-- the reports of the rows that are gone through came after their predecessors
abbrev pub invariant-loop-i : goal.invariant-loop-i
invariant-loop-i l = IsSoBefore (entries l.contents.operations) (IsReportedInOrder l.contents) l.i
