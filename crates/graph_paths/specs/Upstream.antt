-- What lies upstream of a node, and where it begins.
use Rattle.std.specs.Prelude.{ℕ, ◌<◌, Bool, List, AllPairs}
use Rattle.operation_graph.specs.Graphs.{Digraph, HasEdge, IsSet}
use Rattle.operation_graph.specs.Paths.{ReachesBy}

-- p is a predecessor of s: the edge, followed backwards
abbrev pub LeadsBack : Digraph → ℕ → ℕ → Type 0
LeadsBack g s p = HasEdge g p s

-- n is reached backwards from a node, through nodes whose flags are set; each node reaches itself
abbrev pub IsUpstream : Digraph → List Bool → ℕ → ℕ → Type 0
IsUpstream g flags from n = ReachesBy (LeadsBack g) (IsSet flags) from n

-- a predecessor of n has its flag set
abbrev pub IsFed : Digraph → List Bool → ℕ → Type 0
IsFed g flags n = (p : ℕ) × HasEdge g p n × IsSet flags p

-- n is upstream, and no predecessor of it has its flag set
abbrev pub IsSource : Digraph → List Bool → ℕ → ℕ → Type 0
IsSource g flags from n = IsUpstream g flags from n × ¬ IsFed g flags n

-- from the least up, each once
abbrev pub AreAscending : List ℕ → Type 0
AreAscending xs = AllPairs (λ a b. a < b) xs
