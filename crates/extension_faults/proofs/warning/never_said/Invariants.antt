use Rattle.extension_faults.specs.Warned.{AreNeverBelow}
use Rattle.extension_faults.proofs.warning.never_said.Given as goal

-- those of the places so far
abbrev pub invariant-loop-place : goal.invariant-loop-place
invariant-loop-place l = AreNeverBelow l.plan.plan l.said l.place l.places.items
