-- A graph's lists, to which an edge was added.
use Rattle.std.specs.Prelude.{◌≡◌, ℕ, ◌<◌, List, Contains}
use Rattle.operation_graph.specs.Graphs.{Digraph}
use Rattle.operation_graph.specs.Adjacency.{IsKept, Rows, graph_of, joined, row}

-- a graph's lists and ranks, and two of its nodes
pub record IsAsked (succs preds : Rows) (ranks : List ℕ) (g : Digraph) (a b : ℕ) : Type 0 where
  pub kept : IsKept succs preds ranks
  pub view : graph_of succs ranks ≡ g
  pub first : a < g.nodes
  pub second : b < g.nodes

-- its lists with an edge between these nodes that wasn't there
pub record IsJoining (succs preds : Rows) (ranks : List ℕ) (g : Digraph) (a b : ℕ) (succs' preds' : Rows) : Type 0 where
  pub asked : IsAsked succs preds ranks g a b
  pub new : ¬ Contains (row succs a) b
  pub succs_are : succs' ≡ joined succs a b
  pub preds_are : preds' ≡ joined preds b a
