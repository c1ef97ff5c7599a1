use Rattle.plan_rows.proofs.WrittenOfEach.{IsWrittenOf}
use Rattle.plan_rows.proofs.written.push_written.Given as goal

-- what is written of the first of them is added
abbrev pub invariant-loop-item : goal.invariant-loop-item
invariant-loop-item g l = IsWrittenOf (λ x r. goal.F-post g l.write x r) l.items l.item-index l.fn.rows.items l.rows.items
