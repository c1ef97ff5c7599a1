-- What is going and what is complete, followed from one request to the next by the indices of the operations that it changes.
use Rattle.std.specs.Prelude.{◌≡◌, ◌⊎◌, ℕ, ◌<◌, ◌≤◌, List, All, Contains, length, MatchOption, Option, Some, None, slice_get}
use Rattle.std.specs.FinMap.{entries}
use Rattle.plan_basics.specs.declared.keys.OpKey.{OpKey}
use Rattle.plan_model.specs.Contents.{Contents, Operation}
use Rattle.plan_model.specs.Status.{HasStatus}
use Rattle.status_rules.specs.declared.Status.TheVariants.{Complete}
use Rattle.plan_forecast.specs.Ahead.{Ahead, IsDue, IsGoing, IsTimeAfter}
use Rattle.plan_records.specs.declared.OperationRow.{OperationRow}
use Rattle.plan_records.specs.declared.PlanRow.{PlanRow}
use Rattle.plan_records.specs.declared.PlanRow.TheVariants as row

-- each of these is the index of an operation
abbrev pub ArePlaces : Contents → List ℕ → Type 0
ArePlaces P places = All (λ i. i < length (entries P.operations)) places

-- these are indices of operations, and that of each operation whose row is one of the rows is among them
pub record AreTouched (P : Contents) (rows : List PlanRow) (places : List ℕ) : Type 0 where
  pub within : ArePlaces P places
  pub all : (i : ℕ) (r : OperationRow) (op : Operation) → Contains rows (row.Operation r) → slice_get (entries P.operations) i ≡ Some (r.op, op) → Contains places i

-- of what operation this is so in Q, of that it was so in P, or its index is one of these
abbrev pub IsNewAtMostAt : List ℕ → (Contents → OpKey → Type 0) → Contents → Contents → Type 0
IsNewAtMostAt places is_so P Q = (i : ℕ) (o : OpKey) (op : Operation) → slice_get (entries Q.operations) i ≡ Some (o, op) → is_so Q o → is_so P o ⊎ Contains places i

-- these are indices of operations, and at them alone stands what is going, or complete, and wasn't before
pub record AreChangedPlaces (P Q : Contents) (places : List ℕ) : Type 0 where
  pub within : ArePlaces P places
  pub going : IsNewAtMostAt places IsGoing P Q
  pub complete : IsNewAtMostAt places (λ C o. HasStatus C o Complete) P Q

-- these are indices of operations, among them those of all that are going
pub record AreGoingAt (P : Contents) (places : List ℕ) : Type 0 where
  pub within : ArePlaces P places
  pub all : (i : ℕ) (o : OpKey) (op : Operation) → slice_get (entries P.operations) i ≡ Some (o, op) → IsGoing P o → Contains places i

-- of what operation this is so, that has a time
abbrev pub HaveTimes : (OpKey → Type 0) → List (OpKey × Operation) → List (Option ℕ) → Type 0
HaveTimes is_so rows times = (i : ℕ) (o : OpKey) (op : Operation) → slice_get rows i ≡ Some (o, op) → is_so o → (b : ℕ) × (slice_get times i ≡ Some (Some b))

-- what is going stands at these indices, and has a time, and so has what is complete
pub record IsFollowed (P : Contents) (places : List ℕ) (begun_times ended_times : List (Option ℕ)) : Type 0 where
  pub going : AreGoingAt P places
  pub begun : HaveTimes (IsGoing P) (entries P.operations) begun_times
  pub ended : HaveTimes (λ o. HasStatus P o Complete) (entries P.operations) ended_times

-- at each index stands what stood there, or the time after this minute of its operation; and this at each of these indices
pub record AreSetAt (is_so : OpKey → Type 0) (from : OpKey → ℕ) (rows : List (OpKey × Operation)) (places : List ℕ) (before now : List (Option ℕ)) : Type 0 where
  pub each : (k : ℕ) (o : OpKey) (op : Operation) (y : Option ℕ) → slice_get rows k ≡ Some (o, op) → slice_get before k ≡ Some y → (z : Option ℕ) × (slice_get now k ≡ Some z) × ((z ≡ y) ⊎ IsTimeAfter (is_so o) (from o) y z)
  pub here : (k : ℕ) (o : OpKey) (op : Operation) (y z : Option ℕ) → Contains places k → slice_get rows k ≡ Some (o, op) → slice_get before k ≡ Some y → slice_get now k ≡ Some z → IsTimeAfter (is_so o) (from o) y z

-- to the old indices come those of these alone at which something is going, and all of them
pub record AddsGoing (P : Contents) (places old new : List ℕ) : Type 0 where
  pub kept : (i : ℕ) → Contains old i → Contains new i
  pub within : (i : ℕ) → Contains new i → Contains old i ⊎ Contains places i
  pub all : (i : ℕ) (o : OpKey) (op : Operation) → Contains places i → slice_get (entries P.operations) i ≡ Some (o, op) → IsGoing P o → Contains new i

-- these are indices of the first or the second, among them all of both at which something is going
pub record AreGoingAmong (P : Contents) (first second places : List ℕ) : Type 0 where
  pub within : ArePlaces P places
  pub all : (i : ℕ) (o : OpKey) (op : Operation) → Contains first i ⊎ Contains second i → slice_get (entries P.operations) i ≡ Some (o, op) → IsGoing P o → Contains places i

-- all so many indices are these
pub record AreAll (count : ℕ) (places : List ℕ) : Type 0 where
  pub within : All (λ i. i < count) places
  pub all : (i : ℕ) → i < count → Contains places i

-- the operation at an index is due
abbrev pub IsDueAt : Ahead → ℕ → ℕ → Type 0
IsDueAt s m i = (o : OpKey) × (op : Operation) × (slice_get (entries s.plan.contents.operations) i ≡ Some (o, op)) × IsDue s o m

-- the least of these indices at which something is due, if anything is
abbrev pub IsLeastDue : Ahead → ℕ → List ℕ → Option ℕ → Type 0
IsLeastDue s m places least = MatchOption least ((i : ℕ) → Contains places i → ¬ IsDueAt s m i) (λ p. IsDueAt s m p × ((i : ℕ) → Contains places i → IsDueAt s m i → p ≤ i))

-- the lesser of an index and another one, if there is one
abbrev pub IsLeastWith : Option ℕ → ℕ → ℕ → Type 0
IsLeastWith None i k = k ≡ i
IsLeastWith (Some other) i k = ((k ≡ i) ⊎ (k ≡ other)) × (k ≤ i) × (k ≤ other)
