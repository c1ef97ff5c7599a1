use Rattle.record_faults.specs.Groups.{AreLast}
use Rattle.record_faults.proofs.counts.latest_of.Given as goal

-- the last places so far
abbrev pub invariant-loop-place : goal.invariant-loop-place
invariant-loop-place l = AreLast l.groups l.place l.latest
