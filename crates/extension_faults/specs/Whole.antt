-- What is wrong with an extension's text as a whole, beside the plan that it is to extend: a path of dependencies returns, by way of what stays of the plan.
use Rattle.std.specs.Prelude.{◌≡◌, ◌≢◌, ◌↔◌, ◌⊎◌, ◌+◌, ℕ, List, [], ◌∷◌, ◌++◌, AllPairs, Contains, Option, Some, is_some, true, take, slice_get}
use Rattle.std.specs.List.{filter_map}
use Rattle.std.specs.Option.{option_and_then}
use Rattle.std.specs.BTreeMap.{BTreeMap}
use Rattle.graph_paths.specs.Returns.{LeadsBackTo}
use Rattle.plan_basics.specs.declared.keys.OpKey.{OpKey}
use Rattle.plan_drafts.specs.PlanItems.{as_pair}
use Rattle.plan_drafts.specs.declared.RowKey.{RowKey}
use Rattle.plan_drafts.specs.declared.RowKey.TheVariants as key
use Rattle.plan_drafts.specs.plan_model.specs.Contents.{Contents, Precedes}
use Rattle.plan_drafts.specs.plan_model.specs.operation_graph.specs.Paths.{IsAcyclicBy}
use Rattle.plan_items.specs.declared.Item.{Item}
use Rattle.plan_items.specs.declared.Item.TheVariants as item
use Rattle.plan_import.specs.TextRecords.{AreRecordsOf}
use Rattle.plan_items.specs.Items.{Fields}
use Rattle.record_faults.specs.declared.circles.Circle.{Circle}
use Rattle.record_faults.specs.declared.faults.Fault.TheVariants as fault
use Rattle.record_faults.specs.declared.faults.RecordFault.{RecordFault}
use Rattle.record_faults.specs.Sayings.{PlacedKeys, Sayings, AreSayings, SaysAt, place_in}
use Rattle.extension_faults.specs.Beside.{Stays}

-- p comes before s in the plan, and both stay there
abbrev pub PrecedesThere : Contents → OpKey → OpKey → Type 0
PrecedesThere P p s = Precedes P p s × Stays P p.occurrence × Stays P s.occurrence

-- some record says that s comes after p
abbrev pub SaysPair : Sayings → OpKey → OpKey → Type 0
SaysPair said p s = (place : ℕ) × SaysAt said place (item.Dependency p s)

-- p comes before s: in what stays of the plan, or by the text
abbrev pub PrecedesBeside : Contents → Sayings → OpKey → OpKey → Type 0
PrecedesBeside P said p s = PrecedesThere P p s ⊎ SaysPair said p s

-- no path of these returns
abbrev pub NoneReturnsBeside : Contents → Sayings → Type 0
NoneReturnsBeside P said = IsAcyclicBy (PrecedesBeside P said)

-- from the first operation each leads to one that it comes after, and the record at the place says that the last comes after the first
abbrev pub ClosesBeside : Contents → Sayings → ℕ → OpKey → List OpKey → Type 0
ClosesBeside P said place first way = (last : OpKey) × SaysAt said place (item.Dependency first last) × LeadsBackTo (PrecedesBeside P said) first way last

-- so it is of these records, and so of those of a text
abbrev pub ClosesIn : Contents → List Fields → ℕ → OpKey → List OpKey → Type 0
ClosesIn P records place first way = (said : Sayings) × AreSayings records said × ClosesBeside P said place first way

abbrev pub ClosesInText : Contents → List ℕ → ℕ → OpKey → List OpKey → Type 0
ClosesInText P text place first way = (records : List Fields) × AreRecordsOf text records × ClosesIn P records place first way

-- of these records none returns, and so of those of a text
abbrev pub NoneReturnsIn : Contents → List Fields → Type 0
NoneReturnsIn P records = (said : Sayings) × AreSayings records said × NoneReturnsBeside P said

abbrev pub NoneReturnsInText : Contents → List ℕ → Type 0
NoneReturnsInText P text = (records : List Fields) × AreRecordsOf text records × NoneReturnsIn P records

-- the fault is that the dependency at the place closes this path, if there is one
abbrev pub IsReturnTold : Option Circle → RecordFault → Type 0
IsReturnTold circle f = (c : Circle) × (circle ≡ Some c) × (f.place ≡ c.place) × (f.fault ≡ fault.Returns)

-- ---- on the way there
-- they are all of which this is so, each once
pub record AreAll {X : Type 0} (P : X → Type 0) (xs : List X) : Type 0 where
  pub once : AllPairs (λ (a : X) (b : X). a ≢ b) xs
  pub each : (x : X) → Contains xs x ↔ P x

-- of the members before the n-th they are those of which this is so, each once
abbrev pub AreAllBefore : {X : Type 0} → (X → Type 0) → List X → ℕ → List X → Type 0
AreAllBefore P all n xs = AreAll (λ x. Contains (take n all) x × P x) xs

-- the pair is one of the plan
abbrev pub IsPairThere : Contents → OpKey × OpKey → Type 0
IsPairThere P pair = Precedes P pair.0 pair.1

-- and both of its operations stay
abbrev pub StaysThere : Contents → OpKey × OpKey → Type 0
StaysThere P pair = PrecedesThere P pair.0 pair.1

-- the pair that is said, if one is
abbrev pub pair_said : Option Item → Option (OpKey × OpKey)
pair_said o = option_and_then as_pair o

-- the pairs that are said
abbrev pub pairs_said : Sayings → List (OpKey × OpKey)
pairs_said said = filter_map pair_said said

-- the pairs of the plan that stay, and then those that are said
abbrev pub ArePairsBeside : Contents → Sayings → List (OpKey × OpKey) → Type 0
ArePairsBeside P said pairs = (there : List (OpKey × OpKey)) × AreAll (StaysThere P) there × (pairs ≡ there ++ pairs_said said)

-- s comes after p by a pair of the list
abbrev pub IsListed : List (OpKey × OpKey) → OpKey → OpKey → Type 0
IsListed pairs p s = Contains pairs (p, s)

-- the pair at the place closes a path, whose way back this is; and some path returns by the pairs up to that one
abbrev pub ClosesAt : List (OpKey × OpKey) → ℕ → List OpKey → Type 0
ClosesAt pairs place way = (p : OpKey) × (s : OpKey) × (slice_get pairs place ≡ Some (p, s)) × LeadsBackTo (IsListed pairs) p way s × ¬ IsAcyclicBy (IsListed (take (place + 1) pairs))

-- both ends of each pair, as keys
abbrev pub ends_of : List (OpKey × OpKey) → PlacedKeys
ends_of [] = []
ends_of (pair ∷ pairs) = Some (key.Operation pair.0) ∷ Some (key.Operation pair.1) ∷ ends_of pairs

-- the number of an operation, if it has one: the place of its key
abbrev pub number_in : BTreeMap RowKey ℕ → OpKey → Option ℕ
number_in index o = place_in index (key.Operation o)

-- the edge goes from the number of the predecessor to that of the successor
abbrev pub IsEdgeFor : BTreeMap RowKey ℕ → OpKey × OpKey → ℕ × ℕ → Type 0
IsEdgeFor numbers pair e = (number_in numbers pair.0 ≡ Some e.0) × (number_in numbers pair.1 ≡ Some e.1)

-- both of its operations have a number
abbrev pub AreNumbered : BTreeMap RowKey ℕ → OpKey × OpKey → Type 0
AreNumbered numbers pair = (is_some (number_in numbers pair.0) ≡ true) × (is_some (number_in numbers pair.1) ≡ true)
