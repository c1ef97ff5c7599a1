-- A walk upstream, and nodes of a list that are kept.
use Rattle.std.specs.Prelude.{◌⊎◌, ℕ, Bool, List, ◌++◌, Contains, filter, map}
use Rattle.std.specs.List.{range_with_len}
use Rattle.std.specs.FinSet.{contains}
use Rattle.operation_graph.specs.Adjacency.{Rows}
use Rattle.operation_graph.specs.Graphs.{Digraph}
use Rattle.operation_graph.specs.Walks.{IsWalk}
use Rattle.graph_paths.specs.Upstream.{AreAscending}
use Rattle.graph_paths.specs.declared.ancestors.walk.Walk.{Walk}

-- the predecessors of a node, from the least up
abbrev pub predecessors_of : Digraph → ℕ → List ℕ
predecessors_of g n = filter (λ p. contains g.edges (p, n)) (range_with_len 0 g.nodes)

-- a list of predecessors for each node
abbrev pub predecessor_rows : Digraph → Rows
predecessor_rows g = map (predecessors_of g) (range_with_len 0 g.nodes)

-- a walk upstream has come to this index
abbrev pub IsWalkBack : Digraph → List Bool → ℕ → Walk → ℕ → Type 0
IsWalkBack g flags from w place = IsWalk (predecessor_rows g) flags from w.seen.items w.found.items place

-- those of `all` that pass are kept, in their order, and those that fail aren't, up to a rest that is still to be looked at
pub record IsSift (passes fails : ℕ → Type 0) (all kept rest : List ℕ) : Type 0 where
  pub in_order : AreAscending (kept ++ rest)
  pub sound : (n : ℕ) → Contains kept n → Contains all n × passes n
  pub complete : (n : ℕ) → Contains all n → (Contains kept n ⊎ fails n) ⊎ Contains rest n
  pub within : (n : ℕ) → Contains rest n → Contains all n
