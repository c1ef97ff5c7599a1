-- What a list of records denotes, a plan, an addition or an extension: each record says an item, no two say one of the same key, and these are what that holds.
use Rattle.std.specs.Prelude.{◌≡◌, ◌≢◌, ℕ, ◌<◌, true, List, map, All, Contains, Some, unwrap_or, Vec}
use Rattle.std.specs.List.{AllPairs, AllZip}
use Rattle.std.specs.FinMap.{get, len, contains_key}
use Rattle.std.specs.declared.alloc.Global.{Global}
use Rattle.plan_model.specs.workstations.specs.Workstations.{Workstation}
use Rattle.plan_items.specs.special_resources.specs.Holdings.{usage_of}
use Rattle.plan_model.specs.Contents.{Contents, Operation, AddedParts, HasAttribute, IsPairOf}
use Rattle.plan_model.specs.declared.Occurrence.{Occurrence}
use Rattle.plan_items.specs.declared.Item.{Item}
use Rattle.plan_items.specs.declared.Item.TheVariants as item
use Rattle.plan_items.specs.declared.OperationItem.{OperationItem}
use Rattle.plan_items.specs.Items.{Fields, fields_of, Says}
use Rattle.plan_drafts.specs.declared.RowKey.{RowKey}
use Rattle.plan_drafts.specs.declared.RowKey.TheVariants as key
use Rattle.plan_drafts.specs.Drafts.{IsDraft, IsAddition, IsExtension}

-- the texts of records, without where they lie in memory
abbrev pub records_of : List (List (Vec ℕ Global)) → List Fields
records_of records = map fields_of records

-- what an item is known by
abbrev pub key_of : Item → RowKey
key_of (item.Workstation name attribute) = key.Workstation name
key_of (item.Interval workstation interval) = key.Interval workstation interval.from
key_of (item.Resource name available quantity) = key.Resource name
key_of (item.Occurrence c priority deadline) = key.Occurrence c
key_of (item.Operation o) = key.Operation o.key
key_of (item.Dependency p o) = key.Dependency p o
key_of (item.Need o need) = key.Need o need.name

-- the operation is as its record says: its deadline is its occurrence's where the record gives none
pub record IsAsSaid (said : OperationItem) (c : Occurrence) (op : Operation) : Type 0 where
  pub workstation : op.workstation ≡ said.workstation
  pub duration : op.duration ≡ said.duration
  pub fixed : (op.r1 ≡ said.r1) × (op.r2 ≡ said.r2)
  pub not_before : op.not_before ≡ said.not_before
  pub deadline : op.deadline ≡ unwrap_or said.deadline c.deadline

-- what is added holds just what an item of an occurrence, an operation, a pair or a need says
abbrev pub StandsInAdded : AddedParts → Item → Type 0
StandsInAdded s (item.Occurrence c priority deadline) = get s.occurrences c ≡ Some (record { priority = priority; deadline = deadline })
StandsInAdded s (item.Operation said) = (op : Operation) × (c : Occurrence) × (get s.operations said.key ≡ Some op) × (get s.occurrences said.key.occurrence ≡ Some c) × IsAsSaid said c op
StandsInAdded s (item.Dependency p o) = IsPairOf s.pairs p o
StandsInAdded s (item.Need o need) = (op : Operation) × (get s.operations o ≡ Some op) × (get op.needs need.name ≡ Some (usage_of need))
StandsInAdded s _ = ⊥

-- the occurrences of a plan, with their operations and pairs
abbrev pub entered : Contents → AddedParts
entered P = record { occurrences = P.occurrences; operations = P.operations; pairs = P.pairs }

-- a plan holds just what an item says: of a workstation, an interval or a resource too
abbrev pub StandsIn : Contents → Item → Type 0
StandsIn P (item.Workstation name attribute) = HasAttribute P name attribute
StandsIn P (item.Interval name interval) = (w : Workstation) × (get P.workstations name ≡ Some w) × (get w.intervals interval.from ≡ Some interval)
StandsIn P (item.Resource name available quantity) = get P.resources name ≡ Some (record { available = available; quantity = quantity })
StandsIn P other = StandsInAdded (entered P) other

-- what an addition holds
abbrev pub IsItemOf : AddedParts → RowKey → Type 0
IsItemOf s (key.Occurrence c) = contains_key s.occurrences c ≡ true
IsItemOf s (key.Operation o) = contains_key s.operations o ≡ true
IsItemOf s (key.Dependency p o) = IsPairOf s.pairs p o
IsItemOf s (key.Need o r) = (op : Operation) × (get s.operations o ≡ Some op) × (contains_key op.needs r ≡ true)
IsItemOf s _ = ⊥

-- what a plan holds
abbrev pub IsItemOfPlan : Contents → RowKey → Type 0
IsItemOfPlan P (key.Workstation w) = contains_key P.workstations w ≡ true
IsItemOfPlan P (key.Interval w m) = (ws : Workstation) × (get P.workstations w ≡ Some ws) × (contains_key ws.intervals m ≡ true)
IsItemOfPlan P (key.Resource r) = contains_key P.resources r ≡ true
IsItemOfPlan P k = IsItemOf (entered P) k

-- items of different keys that are all there, and are all that is there
pub record AreItems (stands : Item → Type 0) (is_item : RowKey → Type 0) (items : List Item) : Type 0 where
  pub distinct : AllPairs (λ a b. key_of a ≢ key_of b) items
  pub stand : All stands items
  pub all : (k : RowKey) → is_item k → (i : Item) × Contains items i × (key_of i ≡ k)

-- the items are all that a valid plan holds of which nothing is reported yet
pub record AreItemsOf (items : List Item) (P : Contents) : Type 0 where
  pub draft : IsDraft P
  pub are : AreItems (StandsIn P) (IsItemOfPlan P) items

-- each record says an item, and these items are all that is there
pub record AreDescriptions (stands : Item → Type 0) (is_item : RowKey → Type 0) (records : List Fields) : Type 0 where
  pub items : List Item
  pub said : AllZip Says records items
  pub are : AreItems stands is_item items

-- the records denote the plan
pub record Denotes (records : List Fields) (P : Contents) : Type 0 where
  pub draft : IsDraft P
  pub some_workstation : 0 < len P.workstations
  pub some_occurrence : 0 < len P.occurrences
  pub described : AreDescriptions (StandsIn P) (IsItemOfPlan P) records

-- the records denote the addition
pub record DenotesAddition (records : List Fields) (s : AddedParts) : Type 0 where
  pub addition : IsAddition s
  pub described : AreDescriptions (StandsInAdded s) (IsItemOf s) records

-- the records denote the extension
pub record DenotesExtension (records : List Fields) (s : AddedParts) : Type 0 where
  pub extension : IsExtension s
  pub described : AreDescriptions (StandsInAdded s) (IsItemOf s) records

-- items are those of one plan at most
abbrev pub OnePlanOfItems : Type 0
OnePlanOfItems = (items : List Item) (P Q : Contents) → AreItemsOf items P → AreItemsOf items Q → P ≡ Q

-- records denote one plan at most
abbrev pub OnePlan : Type 0
OnePlan = (records : List Fields) (P Q : Contents) → Denotes records P → Denotes records Q → P ≡ Q

-- and one extension at most
abbrev pub OneExtension : Type 0
OneExtension = (records : List Fields) (s t : AddedParts) → DenotesExtension records s → DenotesExtension records t → s ≡ t

-- and one addition at most
abbrev pub OneAddition : Type 0
OneAddition = (records : List Fields) (s t : AddedParts) → DenotesAddition records s → DenotesAddition records t → s ≡ t
