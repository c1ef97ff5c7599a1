use Rattle.text_faults.specs.AddedFaults.{NoneBelow}
use Rattle.text_faults.proofs.additions.occurrences.first_occurrence.Given as goal

-- no place so far says an occurrence
abbrev pub invariant-loop-place : goal.invariant-loop-place
invariant-loop-place l = NoneBelow l.said l.place
