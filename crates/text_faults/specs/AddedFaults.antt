-- The faults of the records of what is added, an addition or an extension, each with its place, as far as they can be judged without the plan.
use Rattle.std.specs.Prelude.{◌≡◌, ◌↔◌, ◌⊎◌, ℕ, ◌<◌, List, Contains, MatchOption, Option, Some, slice_get, length}
use Rattle.plan_basics.specs.declared.keys.OccKey.{OccKey}
use Rattle.plan_basics.specs.declared.keys.OpKey.{OpKey}
use Rattle.special_resources.specs.declared.Need.{Need}
use Rattle.plan_items.specs.declared.Item.{Item}
use Rattle.plan_items.specs.declared.Item.TheVariants as item
use Rattle.plan_items.specs.Items.{Fields}
use Rattle.plan_drafts.specs.plan_model.specs.Contents.{AddedParts}
use Rattle.plan_drafts.specs.declared.RowKey.TheVariants as key
use Rattle.plan_drafts.specs.ExtensionItems.{MayComeIn}
use Rattle.plan_drafts.specs.Records.{DenotesAddition, DenotesExtension}
use Rattle.record_faults.specs.declared.faults.Fault.{Fault}
use Rattle.record_faults.specs.declared.faults.Fault.TheVariants as fault
use Rattle.record_faults.specs.declared.faults.RecordFault.{RecordFault}
use Rattle.record_faults.specs.declared.groups.Group.TheVariants as group
use Rattle.record_faults.specs.Faults.{IsFaultAt}
use Rattle.record_faults.specs.Sayings.{Sayings, AreSayings, SaysAt, given, IsGiven}
use Rattle.text_faults.specs.declared.additions.faults.AddedText.{AddedText}
use Rattle.text_faults.specs.declared.additions.faults.AddedText.TheVariants as text
use Rattle.text_faults.specs.declared.additions.faults.AddedFault.{AddedFault}
use Rattle.text_faults.specs.declared.additions.faults.AddedFault.TheVariants as of_added
use Rattle.text_faults.specs.declared.additions.faults.PlacedFault.{PlacedFault}

-- an occurrence is said
abbrev pub IsOccurrence : Option Item → Type 0
IsOccurrence said = (c : OccKey) × (priority : ℕ) × (deadline : ℕ) × (said ≡ Some (item.Occurrence c priority deadline))

-- the record at the place says an occurrence
abbrev pub SaysOccurrence : Sayings → ℕ → Type 0
SaysOccurrence said place = (c : OccKey) × (priority : ℕ) × (deadline : ℕ) × SaysAt said place (item.Occurrence c priority deadline)

-- no place below n says one
abbrev pub NoneBelow : Sayings → ℕ → Type 0
NoneBelow said n = (i : ℕ) → i < n → ¬ SaysOccurrence said i

-- the place is the first that says one
abbrev pub IsFirstOccurrence : Sayings → ℕ → Type 0
IsFirstOccurrence said place = SaysOccurrence said place × NoneBelow said place

-- the operation is of an occurrence that is added: some record says that one
abbrev pub IsOwn : Sayings → OpKey → Type 0
IsOwn said o = (place : ℕ) × IsGiven (given said) (key.Occurrence o.occurrence) place

-- the record at the place says a need of the operation
abbrev pub SaysNeedOf : Sayings → ℕ → OpKey → Type 0
SaysNeedOf said place o = (n : Need) × SaysAt said place (item.Need o n)

-- it says a dependency of which neither end is of an occurrence that is added
abbrev pub IsElsewhere : Sayings → ℕ → Type 0
IsElsewhere said place = (p : OpKey) × (s : OpKey) × SaysAt said place (item.Dependency p s) × ¬ IsOwn said p × ¬ IsOwn said s

-- what is a fault of a plan's record is one of what is added: but for names that the plan may have, for limits and paths, which are judged with the plan, for what isn't added, and, in an extension, for no occurrence
abbrev pub IsJudged : AddedText → Sayings → ℕ → Fault → Type 0
IsJudged added said place (fault.Shape s) = Unit {0}
IsJudged added said place (fault.Repeated k first) = Unit {0}
IsJudged added said place fault.NoOperation = Unit {0}
IsJudged added said place (fault.TooMany (group.NeedsOf o) count) = Unit {0}
IsJudged added said place (fault.Missing group.Occurrences) = added ≡ text.Addition
IsJudged added said place (fault.Undefined (key.Occurrence c)) = Unit {0}
IsJudged added said place (fault.Undefined (key.Operation o)) = SaysNeedOf said place o ⊎ IsOwn said o
IsJudged added said place _ = ⊥

-- what is wrong with a record of what is added beside that: a second occurrence in an addition alone
abbrev pub IsAdditionFault : AddedText → Sayings → ℕ → AddedFault → Type 0
IsAdditionFault added said place (of_added.OfRecord f) = ⊥
IsAdditionFault added said place of_added.NotAdded = (x : Item) × SaysAt said place x × ¬ MayComeIn x
IsAdditionFault added said place (of_added.AnotherOccurrence first) = (added ≡ text.Addition) × SaysOccurrence said place × IsFirstOccurrence said first × (first < place)
IsAdditionFault added said place of_added.Elsewhere = IsElsewhere said place

-- a fault of the record at the place, where the records say this
abbrev pub IsFaultHere : AddedText → List Fields → Sayings → ℕ → AddedFault → Type 0
IsFaultHere added records said place (of_added.OfRecord f) = IsFaultAt records said place f × IsJudged added said place f
IsFaultHere added records said place other = IsAdditionFault added said place other

-- a fault of the records of what is added, at the place
abbrev pub IsFaultOfAdded : AddedText → List Fields → ℕ → AddedFault → Type 0
IsFaultOfAdded added records place f = (said : Sayings) × AreSayings records said × IsFaultHere added records said place f

-- the records denote this: as an addition, or as an extension
abbrev pub DenotesAs : AddedText → List Fields → AddedParts → Type 0
DenotesAs text.Addition records s = DenotesAddition records s
DenotesAs text.Extension records s = DenotesExtension records s

-- the records denote something so
abbrev pub DenoteSomeAdded : AddedText → List Fields → Type 0
DenoteSomeAdded added records = (s : AddedParts) × DenotesAs added records s

-- ---- on the way there
-- the first place that says an occurrence, if one does
abbrev pub IsFirstIfAny : Sayings → Option ℕ → Type 0
IsFirstIfAny said found = MatchOption found (NoneBelow said (length said)) (λ first. IsFirstOccurrence said first)

-- it is what is told of a plan's fault
abbrev pub IsToldOf : AddedText → Sayings → RecordFault → PlacedFault → Type 0
IsToldOf added said g f = (f.place ≡ g.place) × (f.fault ≡ of_added.OfRecord g.fault) × IsJudged added said g.place g.fault

-- those that have the property at a place below n, and no others
abbrev pub AreToldBelow : (ℕ → PlacedFault → Type 0) → ℕ → List PlacedFault → Type 0
AreToldBelow P n faults = (f : PlacedFault) → Contains faults f ↔ ((i : ℕ) × (i < n) × P i f)

-- it is what is told of the plan's fault at that place of the list
abbrev pub IsToldAt : AddedText → Sayings → List RecordFault → ℕ → PlacedFault → Type 0
IsToldAt added said found i f = (g : RecordFault) × (slice_get found i ≡ Some g) × IsToldOf added said g f

-- it is what is beside of the record at that place
abbrev pub IsAdditionFaultAt : AddedText → Sayings → ℕ → PlacedFault → Type 0
IsAdditionFaultAt added said i f = (f.place ≡ i) × IsAdditionFault added said i f.fault
