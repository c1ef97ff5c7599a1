-- The graph of a plan's operations: its nodes are the indices of their keys, its edges come from the pairs.
use Rattle.std.specs.Prelude.{◌≡◌, ◌↔◌, ℕ, true, List, All, Contains, Option, Some, length, map, slice_get}
use Rattle.std.specs.FinMap.{contains_key, keys}
use Rattle.plan_model.specs.operation_graph.specs.Graphs.{Digraph, HasEdge, IsGraph}
use Rattle.plan_model.specs.operation_graph.specs.Paths.{ReachesBy}
use Rattle.plan_basics.specs.declared.keys.OpKey.{OpKey}
use Rattle.plan_model.specs.Contents.{Contents, Operations, Pairs, IsPairOf}

-- the graph's nodes are the indices of these keys, its edges lead from index to index as the pairs do from key to key
pub record IsGraphOf (keys : List OpKey) (pairs : Pairs) (g : Digraph) : Type 0 where
  pub nodes : g.nodes ≡ length keys
  pub edges : (i j : ℕ) → HasEdge g i j ↔ ((p : OpKey) × (o : OpKey) × (slice_get keys i ≡ Some p) × (slice_get keys j ≡ Some o) × IsPairOf pairs p o)
  pub graph : IsGraph g

-- the graph of what a plan holds: its nodes are the indices of the operations
abbrev pub IsGraphFor : Contents → Digraph → Type 0
IsGraphFor P g = IsGraphOf (keys P.operations) P.pairs g

-- each pair is of two of the operations
abbrev pub JoinOperations : Operations → Pairs → Type 0
JoinOperations operations pairs = (p o : OpKey) → IsPairOf pairs p o → (contains_key operations p ≡ true) × (contains_key operations o ≡ true)

-- the ends of these pairs are among the keys
abbrev pub AreAmong : List OpKey → List (OpKey × OpKey) → Type 0
AreAmong keys pairs = All (λ pair. Contains keys pair.0 × Contains keys pair.1) pairs

-- so are those of a set of pairs
abbrev pub JoinsAmong : List OpKey → Pairs → Type 0
JoinsAmong keys pairs = (p o : OpKey) → IsPairOf pairs p o → Contains keys p × Contains keys o

-- the keys at the two indices that an edge joins
abbrev pub keys_at : List OpKey → ℕ × ℕ → Option OpKey × Option OpKey
keys_at keys e = (slice_get keys e.0, slice_get keys e.1)

-- the two ends of a pair
abbrev pub both_ends : OpKey × OpKey → Option OpKey × Option OpKey
both_ends pair = (Some pair.0, Some pair.1)

-- these edges join the indices of the ends of these pairs, one edge for each pair
abbrev pub AreAtPlaces : List OpKey → List (OpKey × OpKey) → List (ℕ × ℕ) → Type 0
AreAtPlaces keys pairs edges = map (keys_at keys) edges ≡ map both_ends pairs

-- at these indices are these keys
abbrev pub StandAt : List OpKey → List ℕ → List OpKey → Type 0
StandAt keys places members = map (slice_get keys) places ≡ map Some members

-- what is so of an index is so of its key, and back
abbrev pub HoldsAlike : List OpKey → (ℕ → Type 0) → (OpKey → Type 0) → Type 0
HoldsAlike keys at_place of_key = (i : ℕ) (o : OpKey) → slice_get keys i ≡ Some o → at_place i ↔ of_key o

-- the number at an index is that of its key
abbrev pub CountsAlike : List OpKey → (ℕ → ℕ) → (OpKey → ℕ) → Type 0
CountsAlike keys at_place of_key = (i : ℕ) (o : OpKey) → slice_get keys i ≡ Some o → at_place i ≡ of_key o

-- an index reaches another exactly where its key reaches that one's
abbrev pub ReachAlike : List OpKey → Pairs → Digraph → (ℕ → Type 0) → (OpKey → Type 0) → Type 0
ReachAlike keys pairs g live_at live = (i j : ℕ) (p o : OpKey) → slice_get keys i ≡ Some p → slice_get keys j ≡ Some o
    → ReachesBy (HasEdge g) live_at i j ↔ ReachesBy (IsPairOf pairs) live p o
