use Rattle.std.proofs.Common.{◌≡◌, ◌++◌, length}
use Rattle.plan_reports.proofs.made.error_rows.Given as goal

abbrev pub invariant-loop-rows : goal.invariant-loop-rows
invariant-loop-rows g l = l.rows.items ++ l.left ≡ l.initial.left

abbrev pub decreases-loop-rows : goal.decreases-loop-rows
decreases-loop-rows g l = length l.left
