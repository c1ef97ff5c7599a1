use Rattle.extension_faults.specs.Beside.{Stays}
use Rattle.extension_faults.specs.Whole.{AreAllBefore}
use Rattle.extension_faults.proofs.limits.occurrences_among.Given as goal

-- those of the keys so far
abbrev pub invariant-loop-place : goal.invariant-loop-place
invariant-loop-place l = AreAllBefore (Stays l.plan.plan.contents) l.keys l.place l.staying.items
