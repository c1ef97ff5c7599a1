-- Paths of dependencies that return, by the keys that records give.
use Rattle.std.specs.Prelude.{◌≡◌, ℕ, ◌<◌, List, All, Contains, Option, Some, IfSome}
use Rattle.operation_graph.specs.Paths.{IsAcyclicBy}
use Rattle.plan_basics.specs.declared.keys.OpKey.{OpKey}
use Rattle.plan_drafts.specs.declared.RowKey.{RowKey}
use Rattle.plan_drafts.specs.declared.RowKey.TheVariants as key
use Rattle.graph_paths.specs.Returns.{LeadsBackTo}
use Rattle.record_faults.specs.Sayings.{PlacedKeys, IsGiven, IsFirst}

-- the place is the first that gives the operation's key
abbrev pub StandsAt : PlacedKeys → ℕ → OpKey → Type 0
StandsAt keys place o = IsFirst keys (key.Operation o) place

-- some place says that the second operation comes after the first
abbrev pub HasPair : PlacedKeys → OpKey → OpKey → Type 0
HasPair keys p s = (i : ℕ) × IsGiven keys (key.Dependency p s) i

-- so it is, and both are given
abbrev pub JoinsGiven : PlacedKeys → OpKey → OpKey → Type 0
JoinsGiven keys p s = HasPair keys p s × ((a : ℕ) × StandsAt keys a p) × ((b : ℕ) × StandsAt keys b s)

-- the ends are the places of two operations of which one comes after the other
abbrev pub IsEdgeOfKeys : PlacedKeys → ℕ × ℕ → Type 0
IsEdgeOfKeys keys e = (p : OpKey) × (s : OpKey) × StandsAt keys e.0 p × StandsAt keys e.1 s × HasPair keys p s

-- the key is that of a dependency between the operations at the edge's ends
abbrev pub IsDependencyOf : PlacedKeys → ℕ × ℕ → RowKey → Type 0
IsDependencyOf keys e k = (p : OpKey) × (s : OpKey) × (k ≡ key.Dependency p s) × StandsAt keys e.0 p × StandsAt keys e.1 s

-- the edge of the dependency that the place says, or that it says none between operations that are given
abbrev pub IsEdgeAt : PlacedKeys → ℕ → Option (ℕ × ℕ) → Type 0
IsEdgeAt keys i told = IfSome told (IsEdgeOfKeys keys) × ((a b : ℕ) (p s : OpKey) → IsGiven keys (key.Dependency p s) i → StandsAt keys a p → StandsAt keys b s → told ≡ Some (a, b))

-- the edges are those of the dependencies that the places below n say, no others
pub record AreEdgesBelow (keys : PlacedKeys) (n : ℕ) (edges : List (ℕ × ℕ)) : Type 0 where
  pub sound : All (IsEdgeOfKeys keys) edges
  pub complete : (i a b : ℕ) (p s : OpKey) → i < n → IsGiven keys (key.Dependency p s) i → StandsAt keys a p → StandsAt keys b s → Contains edges (a, b)

-- no path of dependencies between operations that are given returns
abbrev pub NoCircle : PlacedKeys → Type 0
NoCircle keys = IsAcyclicBy (JoinsGiven keys)

-- the place says that the operation at the edge's end comes after this one, which is at its start
abbrev pub IsClosing : PlacedKeys → ℕ × ℕ → ℕ → OpKey → Type 0
IsClosing keys e place first = (last : OpKey) × StandsAt keys e.0 first × StandsAt keys e.1 last × IsGiven keys (key.Dependency first last) place

-- from the first operation each leads to one that it comes after, and the place says that the last comes after the first
abbrev pub IsCircle : PlacedKeys → ℕ → OpKey → List OpKey → Type 0
IsCircle keys place first way = (last : OpKey) × IsGiven keys (key.Dependency first last) place × LeadsBackTo (HasPair keys) first way last
