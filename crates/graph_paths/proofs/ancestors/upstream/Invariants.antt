use Rattle.std.proofs.Common.{◌-◌, length}
use Rattle.graph_paths.specs.Walking.{IsWalkBack, predecessor_rows}
use Rattle.graph_paths.proofs.ancestors.upstream.Given as goal

abbrev pub invariant-loop-place : goal.invariant-loop-place
invariant-loop-place l = IsWalkBack l.graph l.flags l.from l.walk l.place

abbrev pub decreases-loop-place : goal.decreases-loop-place
decreases-loop-place l = length (predecessor_rows l.graph) - l.place
