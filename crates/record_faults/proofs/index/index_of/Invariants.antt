use Rattle.record_faults.specs.Sayings.{IsIndexBelow}
use Rattle.record_faults.proofs.index.index_of.Given as goal

-- the places so far
abbrev pub invariant-loop-place : goal.invariant-loop-place
invariant-loop-place l = IsIndexBelow l.keys l.place l.index
