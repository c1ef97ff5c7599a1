use Rattle.record_faults.specs.Warnings.{AreWarningsBelow}
use Rattle.record_faults.proofs.warnings.warnings_here.Given as goal

-- the warnings of the places so far
abbrev pub invariant-loop-place : goal.invariant-loop-place
invariant-loop-place l = AreWarningsBelow l.openings.said.items l.place l.found.items
