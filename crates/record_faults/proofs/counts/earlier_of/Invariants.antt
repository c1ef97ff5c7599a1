use Rattle.record_faults.specs.Groups.{AreLinked}
use Rattle.record_faults.proofs.counts.earlier_of.Given as goal

-- the places so far
abbrev pub invariant-loop-place : goal.invariant-loop-place
invariant-loop-place l = AreLinked l.groups l.place l.latest l.earlier.items
