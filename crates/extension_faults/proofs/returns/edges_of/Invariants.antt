use Rattle.std.proofs.Common.{take}
use Rattle.std.specs.List.{AllZip}
use Rattle.extension_faults.specs.Whole.{IsEdgeFor}
use Rattle.extension_faults.proofs.returns.edges_of.Given as goal

-- the edges of the pairs so far
abbrev pub invariant-loop-place : goal.invariant-loop-place
invariant-loop-place l = AllZip (IsEdgeFor l.numbers) (take l.place l.pairs) l.edges.items
