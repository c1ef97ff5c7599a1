use Rattle.record_faults.specs.Circles.{AreEdgesBelow}
use Rattle.record_faults.proofs.circles.edges_of_keys.Given as goal

-- the edges of the places so far
abbrev pub invariant-loop-place : goal.invariant-loop-place
invariant-loop-place l = AreEdgesBelow l.keys l.place l.edges.items
