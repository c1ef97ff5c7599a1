use Rattle.extension_faults.specs.Whole.{AreAllBefore, StaysThere}
use Rattle.extension_faults.proofs.staying.pairs_staying.Given as goal

-- those of the pairs so far
abbrev pub invariant-loop-place : goal.invariant-loop-place
invariant-loop-place l = AreAllBefore (StaysThere l.plan.plan.contents) l.pairs l.place l.staying.items
