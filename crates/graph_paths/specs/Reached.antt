-- Graphs of listed edges, and the nodes that are reached in them.
use Rattle.std.specs.Prelude.{◌≡◌, ◌↔◌, ℕ, Bool, List, length}
use Rattle.operation_graph.specs.Paths.{ReachesBy}
use Rattle.operation_graph.specs.Graphs.{Digraph, HasEdge, IsGraph, IsSet, edges_of}
use Rattle.graph_paths.specs.Returns.{NoneReturns}

-- a graph of so many nodes with the listed edges, of which no path returns
pub record IsGraphOf (n : ℕ) (listed : List (ℕ × ℕ)) (g : Digraph) : Type 0 where
  pub nodes : g.nodes ≡ n
  pub edges : g.edges ≡ edges_of listed
  pub graph : IsGraph g
  pub none : NoneReturns listed

-- some path leads from the one node to the other, or they are the same
abbrev pub IsReached : Digraph → ℕ → ℕ → Type 0
IsReached g from n = ReachesBy (HasEdge g) (λ _. Unit {0}) from n

-- so many flags, of which those of exactly these nodes are set
abbrev pub AreFlagsOf : ℕ → (ℕ → Type 0) → List Bool → Type 0
AreFlagsOf count P flags = (length flags ≡ count) × ((n : ℕ) → IsSet flags n ↔ P n)
