-- The faults of a list of records, each with its place.
use Rattle.std.specs.Prelude.{◌≡◌, ◌≢◌, ◌↔◌, ◌⊎◌, ℕ, ◌<◌, ◌≤◌, List, length, All, Contains, Option, Some, None, MatchOption, slice_get, slice_index_or}
use Rattle.std.specs.List.{AllPairs}
use Rattle.std.specs.Option.{option_and_then}
use Rattle.plan_basics.specs.Intervals.{OpenInterval, AreApart}
use Rattle.plan_basics.specs.Keys.{Name}
use Rattle.plan_drafts.specs.PlanItems.{as_interval, as_need, as_resource}
use Rattle.special_resources.specs.declared.Need.{Need}
use Rattle.plan_model.specs.declared.Stock.{Stock}
use Rattle.plan_basics.specs.declared.keys.OccKey.{OccKey}
use Rattle.plan_basics.specs.declared.keys.OpKey.{OpKey}
use Rattle.plan_items.specs.declared.Item.{Item}
use Rattle.plan_items.specs.declared.Item.TheVariants as item
use Rattle.plan_items.specs.Items.{Fields}
use Rattle.plan_model.specs.Contents.{Contents}
use Rattle.plan_drafts.specs.declared.RowKey.{RowKey}
use Rattle.plan_drafts.specs.declared.RowKey.TheVariants as key
use Rattle.plan_drafts.specs.Records.{Denotes}
use Rattle.record_faults.specs.Shapes.{IsShapeFault}
use Rattle.record_faults.specs.Sayings.{Sayings, AreSayings, SaysAt, given, owned, IsGiven, IsFirst, IsNowhere}
use Rattle.record_faults.specs.Circles.{IsCircle, NoCircle}
use Rattle.record_faults.specs.Groups.{grouped, most_of, count_of}
use Rattle.record_faults.specs.declared.groups.Group.{Group}
use Rattle.record_faults.specs.declared.groups.Group.TheVariants as group
use Rattle.record_faults.specs.declared.faults.Fault.{Fault}
use Rattle.record_faults.specs.declared.faults.Fault.TheVariants as fault
use Rattle.record_faults.specs.declared.faults.RecordFault.{RecordFault}
use Rattle.record_faults.specs.declared.names.Naming.{Naming}
use Rattle.record_faults.specs.declared.names.Naming.TheVariants.{First, Second}

-- the first thing that an item names, and that some record has to define
abbrev pub first_name : Item → Option RowKey
first_name (item.Interval w x) = Some (key.Workstation w)
first_name (item.Operation o) = Some (key.Workstation o.workstation)
first_name (item.Dependency p s) = Some (key.Operation p)
first_name (item.Need o need) = Some (key.Operation o)
first_name _ = None

-- the second
abbrev pub second_name : Item → Option RowKey
second_name (item.Operation o) = Some (key.Occurrence o.key.occurrence)
second_name (item.Dependency p s) = Some (key.Operation s)
second_name (item.Need o need) = Some (key.Resource need.name)
second_name _ = None

-- one of the two
abbrev pub name_of : Naming → Item → Option RowKey
name_of First x = first_name x
name_of Second x = second_name x

-- a dependency from an operation to itself is said: both things that it names are one
abbrev pub IsToItself : Option Item → Type 0
IsToItself said = (o : OpKey) × (said ≡ Some (item.Dependency o o))

-- the record says nothing, and this is what is wrong with it
abbrev pub IsSilent : List Fields → Sayings → ℕ → Fault → Type 0
IsSilent records said place (fault.Shape s) = (fields : Fields) × (slice_get records place ≡ Some fields) × (slice_get said place ≡ Some None) × IsShapeFault fields s
IsSilent records said place _ = ⊥

-- the key of what it says was given before, first at this place
abbrev pub IsRepetition : Sayings → ℕ → Fault → Type 0
IsRepetition said place (fault.Repeated k first) = IsGiven (given said) k place × IsFirst (given said) k first × (first < place)
IsRepetition said place _ = ⊥

-- it names what no record defines
abbrev pub IsUndefined : Naming → Sayings → ℕ → Fault → Type 0
IsUndefined naming said place (fault.Undefined k) = (x : Item) × SaysAt said place x × (name_of naming x ≡ Some k) × IsNowhere (given said) k
IsUndefined naming said place _ = ⊥

-- its occurrence has no operation
abbrev pub IsUnused : Sayings → ℕ → Fault → Type 0
IsUnused said place fault.NoOperation = (c : OccKey) × IsGiven (given said) (key.Occurrence c) place × IsNowhere (owned said) (key.Occurrence c)
IsUnused said place _ = ⊥

-- the interval that is said, if one is, with its workstation
abbrev pub interval_said : Option Item → Option (Name × OpenInterval)
interval_said o = option_and_then as_interval o

-- both say intervals of one workstation, and some minute is in both
abbrev pub DoOverlap : Option Item → Option Item → Type 0
DoOverlap a b = (y : Name × OpenInterval) × (z : Name × OpenInterval) × (interval_said a ≡ Some y) × (interval_said b ≡ Some z) × (y.0 ≡ z.0) × ¬ AreApart y.1 z.1

-- the records at the two places overlap so
abbrev pub OverlapAt : Sayings → ℕ → ℕ → Type 0
OverlapAt said i place = DoOverlap (slice_index_or said i None) (slice_index_or said place None)

-- its interval overlaps one that was said before, last at this place
abbrev pub IsOverlap : Sayings → ℕ → Fault → Type 0
IsOverlap said place (fault.Overlaps other) = (other < place) × OverlapAt said other place × ((i : ℕ) → other < i → i < place → ¬ OverlapAt said i place)
IsOverlap said place _ = ⊥

-- the need that is said, if one is, with its operation
abbrev pub need_said : Option Item → Option (OpKey × Need)
need_said o = option_and_then as_need o

-- the special resource that is said, if one is, and what there is of it
abbrev pub resource_said : Option Item → Option (Name × Stock)
resource_said o = option_and_then as_resource o

-- it needs more of a resource than there is, by the record at the other place, the first that says this resource
abbrev pub IsBeyondStock : Sayings → ℕ → Fault → Type 0
IsBeyondStock said place (fault.BeyondStock other) = (y : OpKey × Need) × (z : Name × Stock) × (need_said (slice_index_or said place None) ≡ Some y) × IsFirst (given said) (key.Resource y.1.name) other
    × (resource_said (slice_index_or said other None) ≡ Some z) × (z.1.quantity < y.1.amount)
IsBeyondStock said place _ = ⊥

-- it is the first of its group, of which there are so many and more than a plan may hold
abbrev pub IsCrowd : Sayings → ℕ → Fault → Type 0
IsCrowd said place (fault.TooMany g count) = IsFirst (grouped said) g place × (count ≡ count_of g (grouped said)) × (most_of g < count)
IsCrowd said place _ = ⊥

-- after all records: none is of this group
abbrev pub IsMissing : Group → Sayings → ℕ → Fault → Type 0
IsMissing g said place (fault.Missing k) = (k ≡ g) × (place ≡ length said) × (count_of g (grouped said) ≡ 0)
IsMissing g said place _ = ⊥

-- a fault of the record at the place, where the records say this
abbrev pub IsOwnFault : List Fields → Sayings → ℕ → Fault → Type 0
IsOwnFault records said place f =
    IsSilent records said place f ⊎ IsRepetition said place f ⊎ IsOverlap said place f ⊎ IsUndefined First said place f ⊎ IsUndefined Second said place f ⊎ IsUnused said place f ⊎ IsCrowd said place f
    ⊎ IsBeyondStock said place f

-- such a fault, or after all records that there is no workstation or no occurrence
abbrev pub IsFaultAt : List Fields → Sayings → ℕ → Fault → Type 0
IsFaultAt records said place f = IsOwnFault records said place f ⊎ IsMissing group.Workstations said place f ⊎ IsMissing group.Occurrences said place f

-- the records denote some plan
abbrev pub DenoteSome : List Fields → Type 0
DenoteSome records = (P : Contents) × Denotes records P

-- the dependency at the place closes a path that returns
abbrev pub IsReturning : Sayings → ℕ → Fault → Type 0
IsReturning said place fault.Returns = (first : OpKey) × (way : List OpKey) × IsCircle (given said) place first way
IsReturning said place _ = ⊥

-- so it is, and no record has another fault
abbrev pub IsOfAll : List Fields → Sayings → ℕ → Fault → Type 0
IsOfAll records said place f = ((i : ℕ) (g : Fault) → ¬ IsFaultAt records said i g) × IsReturning said place f

-- a dependency of these records closes the path over these operations
abbrev pub IsCircleOf : List Fields → ℕ → OpKey → List OpKey → Type 0
IsCircleOf records place first way = (said : Sayings) × AreSayings records said × IsCircle (given said) place first way

-- no path of the dependencies of these records returns
abbrev pub NoCircleIn : List Fields → Type 0
NoCircleIn records = (said : Sayings) × AreSayings records said × NoCircle (given said)

-- a fault of the record at the place
abbrev pub IsFaultOfRecord : List Fields → ℕ → Fault → Type 0
IsFaultOfRecord records place f = (said : Sayings) × AreSayings records said × IsFaultAt records said place f

-- a fault of the records, at the place
abbrev pub IsFault : List Fields → ℕ → Fault → Type 0
IsFault records place f = (said : Sayings) × AreSayings records said × (IsFaultAt records said place f ⊎ IsOfAll records said place f)

-- what is told: the fault that has the property, or that there is none
abbrev pub IsAnswer : (Fault → Type 0) → Option Fault → Type 0
IsAnswer P told = MatchOption told ((f : Fault) → ¬ P f) (λ f. P f × ((g : Fault) → P g → g ≡ f))

-- where none with the property was among the old ones, and of these none stood twice, none of the new ones does
abbrev pub StayOnce : {X : Type 0} → (X → Type 0) → List X → List X → Type 0
StayOnce {X} P old new = ((x : X) → P x → ¬ Contains old x) → AllPairs (λ a b. a ≢ b) old → AllPairs (λ a b. a ≢ b) new

-- in the order of their places, none of which is after this one
pub record AreInOrderTo (place : ℕ) (faults : List RecordFault) : Type 0 where
  pub in_order : AllPairs (λ (a : RecordFault) (b : RecordFault). a.place ≤ b.place) faults
  pub within : All (λ (a : RecordFault). a.place ≤ place) faults

-- the faults of the records at the places below this one, no others, in the order of their places, and each once
pub record AreFaultsBelow (records : List Fields) (said : Sayings) (n : ℕ) (faults : List RecordFault) : Type 0 where
  pub exact : (f : RecordFault) → Contains faults f ↔ ((f.place < n) × IsOwnFault records said f.place f.fault)
  pub in_order : AllPairs (λ (a : RecordFault) (b : RecordFault). a.place ≤ b.place) faults
  pub once : AllPairs (λ (a : RecordFault) (b : RecordFault). a ≢ b) faults

-- all faults, no others, in the order of their places, and each once
pub record AreFaults (records : List Fields) (said : Sayings) (faults : List RecordFault) : Type 0 where
  pub exact : (f : RecordFault) → Contains faults f ↔ IsFaultAt records said f.place f.fault
  pub in_order : AllPairs (λ (a : RecordFault) (b : RecordFault). a.place ≤ b.place) faults
  pub once : AllPairs (λ (a : RecordFault) (b : RecordFault). a ≢ b) faults
