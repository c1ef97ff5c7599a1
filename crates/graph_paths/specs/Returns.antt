-- Paths of listed edges that return to their start.
use Rattle.std.specs.Prelude.{◌≡◌, ◌+◌, ℕ, List, [], ◌∷◌, Some, slice_get, take, Contains}
use Rattle.operation_graph.specs.Paths.{IsAcyclicBy}
use Rattle.operation_graph.specs.Graphs.{IsEdgeOf, edges_of}

-- no path of these edges returns to its start
abbrev pub NoneReturns : List (ℕ × ℕ) → Type 0
NoneReturns edges = IsAcyclicBy (IsEdgeOf (edges_of edges))

-- with the edge at this place a path returns, and without it and those after it none does
abbrev pub IsFirstToReturn : List (ℕ × ℕ) → ℕ → Type 0
IsFirstToReturn edges place = NoneReturns (take place edges) × ¬ NoneReturns (take (place + 1) edges)

-- from each node, beginning with a, an edge leads back to the next one on the way, and the last is b
abbrev pub LeadsBackTo : {K : Type 0} → (K → K → Type 0) → K → List K → K → Type 0
LeadsBackTo edge a [] b = a ≡ b
LeadsBackTo edge a (c ∷ way) b = edge c a × LeadsBackTo edge c way b

-- the edge at this place goes from the node a to the node b, and the way leads back from a to b by listed edges
abbrev pub IsReturn : List (ℕ × ℕ) → ℕ → List ℕ → Type 0
IsReturn edges place way = (a : ℕ) × (b : ℕ) × (slice_get edges place ≡ Some (a, b)) × LeadsBackTo (λ p s. Contains edges (p, s)) a way b
