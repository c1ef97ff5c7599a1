-- What may differ from the plan of one source to that of the next where some of its operations were touched, and no others.
use Rattle.std.specs.Prelude.{◌≡◌, ◌≢◌, ◌↔◌, ◌<◌, ℕ, List, [], length, slice_get, Contains, Option, Some, None, option_map}
use Rattle.std.specs.FinMap.{entries, get}
use Rattle.std.specs.List.Sorted.{IsStrictlySortedBy}
use Rattle.std.specs.Ordering.{nat_cmp}
use Rattle.plan_basics.specs.Keys.{Name}
use Rattle.plan_basics.specs.declared.keys.OpKey.{OpKey}
use Rattle.plan_model.specs.Contents.{Contents, Operation}
use Rattle.plan_model.specs.declared.Occurrence.{Occurrence}
use Rattle.plan_model.specs.Moves.{IsRemarkedAt}
use Rattle.plan_rows.specs.Sources.{contents_if_any, Known, known_of}
use Rattle.plan_rows.specs.declared.row_sources.RowSource.{RowSource}
use Rattle.plan_rows.specs.declared.notes.FacilityChange.{FacilityChange}
use Rattle.plan_rows.specs.declared.notes.FacilityChange.TheVariants as facilities
use Rattle.status_rules.specs.declared.Counts.{Counts}

-- what is known of each operation of a source, if there is one
abbrev pub known_if_any : Option RowSource → List Known
known_if_any None = []
known_if_any (Some s) = known_of s

-- the numbers of each occurrence of a source, if there is one
abbrev pub tallies_if_any : Option RowSource → List Counts
tallies_if_any None = []
tallies_if_any (Some s) = s.tallies.now

-- the operation at i belongs to the occurrence at p
pub record BelongsAt (P : Contents) (i p : ℕ) : Type 0 where
  pub o : OpKey
  pub op : Operation
  pub terms : Occurrence
  pub operation : slice_get (entries P.operations) i ≡ Some (o, op)
  pub occurrence : slice_get (entries P.occurrences) p ≡ Some (o.occurrence, terms)

-- one of the operations at these places belongs to the occurrence at p
abbrev pub HasOneOf : Contents → List ℕ → ℕ → Type 0
HasOneOf P touched p = (i : ℕ) × Contains touched i × BelongsAt P i p

-- these are the occurrences to which the operations at these places belong, each once, in order
pub record AreOccurrencesOf (P : Contents) (touched occurrences : List ℕ) : Type 0 where
  pub ascend : IsStrictlySortedBy nat_cmp occurrences
  pub all : (p : ℕ) → Contains occurrences p ↔ HasOneOf P touched p

-- of operations no more differs than marks and flags of those at these places
pub record AreMovedAmong (P Q : Contents) (touched : List ℕ) : Type 0 where
  pub places : List ℕ
  pub moved : IsRemarkedAt P Q places
  pub among : (i : ℕ) → Contains places i → Contains touched i

-- no more was touched than the operations at these places, and what follows from them for their occurrences
pub record AreTouched (before after : Option RowSource) (touched : List ℕ) : Type 0 where
  pub moved : AreMovedAmong (contents_if_any before) (contents_if_any after) touched
  pub ascend : IsStrictlySortedBy nat_cmp touched
  pub within : (i : ℕ) → Contains touched i → i < length (entries (contents_if_any before).operations)
  pub known : (i : ℕ) → ¬ Contains touched i → slice_get (known_if_any after) i ≡ slice_get (known_if_any before) i
  pub tallies : (i : ℕ) → ¬ HasOneOf (contents_if_any before) touched i → slice_get (tallies_if_any after) i ≡ slice_get (tallies_if_any before) i

-- there is as much of each special resource
abbrev pub KeepsQuantities : Contents → Contents → Type 0
KeepsQuantities P Q = (r : Name) → option_map (λ s. s.quantity) (get Q.resources r) ≡ option_map (λ s. s.quantity) (get P.resources r)

-- what else of the contents stays
abbrev pub IsFacilityChange : FacilityChange → Contents → Contents → Type 0
IsFacilityChange facilities.Nothing P Q = (Q.workstations ≡ P.workstations) × (Q.resources ≡ P.resources) × (Q.pairs ≡ P.pairs)
IsFacilityChange facilities.Resources P Q = (Q.workstations ≡ P.workstations) × (Q.pairs ≡ P.pairs) × KeepsQuantities P Q
IsFacilityChange facilities.Workstations P Q = (Q.resources ≡ P.resources) × (Q.pairs ≡ P.pairs)

-- of these places those at which the rows before and after differ, in order
pub record AreDifferentAmong {X : Type 0} (olds news : List X) (places different : List ℕ) : Type 0 where
  pub ascend : IsStrictlySortedBy nat_cmp different
  pub has : (i : ℕ) → Contains different i ↔ (Contains places i × (slice_get olds i ≢ slice_get news i))
