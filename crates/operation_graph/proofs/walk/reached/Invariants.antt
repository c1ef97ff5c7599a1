use Rattle.std.proofs.Common.{◌-◌, length}
use Rattle.operation_graph.specs.Adjacency.{rows_of}
use Rattle.operation_graph.specs.Walks.{IsWalkTo}
use Rattle.operation_graph.proofs.walk.reached.Given as goal

abbrev pub invariant-loop-place : goal.invariant-loop-place
invariant-loop-place l = IsWalkTo (rows_of l.succs) l.live l.from l.walk l.place

abbrev pub decreases-loop-place : goal.decreases-loop-place
decreases-loop-place l = length l.succs - l.place
