use Rattle.std.proofs.Common.{◌≡◌, ◌↔◌, ℕ, length, take, Contains}
use Rattle.operation_graph.specs.Graphs.{IsSet}
use Rattle.graph_paths.proofs.returns.way.flags_of.Given as goal

-- the flags of the nodes so far are set, and no others
abbrev pub invariant-loop-node : goal.invariant-loop-node
invariant-loop-node l = record {
  size : length l.flags.items ≡ l.count;
  set : (i : ℕ) → IsSet l.flags.items i ↔ Contains (take l.node-index l.nodes) i;
}
