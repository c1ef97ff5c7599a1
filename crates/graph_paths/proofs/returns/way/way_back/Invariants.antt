use Rattle.std.proofs.Common.{◌<◌}
use Rattle.operation_graph.specs.Graphs.{HasEdge, rank_of}
use Rattle.graph_paths.specs.Returns.{LeadsBackTo}
use Rattle.graph_paths.specs.Reached.{IsReached}
use Rattle.graph_paths.proofs.returns.way.way_back.Given as goal

-- the way has come to a node that is reached
abbrev pub invariant-loop-node : goal.invariant-loop-node
invariant-loop-node l = record {
  way : LeadsBackTo (HasEdge l.graph) l.to l.way.items l.node;
  reached : IsReached l.graph l.from l.node;
  node : l.node < l.graph.nodes;
}

abbrev pub decreases-loop-node : goal.decreases-loop-node
decreases-loop-node l = rank_of l.graph l.node
