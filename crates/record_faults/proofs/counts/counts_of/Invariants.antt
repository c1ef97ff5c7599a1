use Rattle.std.proofs.Common.{take}
use Rattle.record_faults.specs.Groups.{AreCounts}
use Rattle.record_faults.proofs.counts.counts_of.Given as goal

-- the counts of the places so far
abbrev pub invariant-loop-place : goal.invariant-loop-place
invariant-loop-place l = AreCounts (take l.place l.groups) l.counts
