-- What lists of items say of a plan, kind by kind.
use Rattle.std.specs.Prelude.{◌≡◌, ◌≢◌, ◌≤◌, List, length, map, All, Contains, Option, Some, None, cond, unwrap_or, false}
use Rattle.std.specs.List.{AllPairs, filter_map}
use Rattle.std.specs.declared.cmp.Ordering.{Ordering}
use Rattle.std.specs.FinSet.{from_list}
use Rattle.plan_items.specs.special_resources.specs.declared.Need.{Need}
use Rattle.plan_items.specs.special_resources.specs.Needs.{usages_of}
use Rattle.plan_model.specs.Valid.{IsAcyclic}
use Rattle.std.specs.FinMap as fin
use Rattle.std.specs.Ordering.{eq_by_cmp, ordering_then}
use Rattle.plan_basics.specs.declared.Attr.{Attr}
use Rattle.plan_basics.specs.declared.keys.OccKey.{OccKey}
use Rattle.plan_basics.specs.declared.keys.OpKey.{OpKey}
use Rattle.plan_basics.specs.declared.limits.TheConstants.{MOST_INTERVALS, MOST_NEEDS, MOST_OCCURRENCES, MOST_OPERATIONS, MOST_PAIRS, MOST_RESOURCES, MOST_WORKSTATIONS}
use Rattle.plan_basics.specs.Keys.{Name, name_cmp, occurrence_cmp, operation_cmp}
use Rattle.plan_basics.specs.Intervals.{OpenInterval, AreApart}
use Rattle.plan_model.specs.workstations.specs.Timetables.{NamedWorkstation, workstation_by}
use Rattle.plan_model.specs.status_rules.specs.declared.Mark.TheVariants.{Unmarked}
use Rattle.plan_model.specs.Contents.{Contents, Operation, pair_cmp}
use Rattle.plan_model.specs.declared.Occurrence.{Occurrence}
use Rattle.plan_model.specs.declared.Stock.{Stock}
use Rattle.plan_items.specs.declared.Item.{Item}
use Rattle.std.specs.List.Sorted.{IsPermutation, IsStrictlySortedBy}
use Rattle.std.specs.Map.{keys_of}
use Rattle.plan_drafts.specs.Contents.{Rows, held_by, AreRowsInOrder}
use Rattle.plan_drafts.specs.KeyOrder.{AreInKeyOrder}
use Rattle.plan_items.specs.declared.Item.TheVariants as item
use Rattle.plan_items.specs.declared.OperationItem.{OperationItem}

-- the workstation that an item says, with its attribute
abbrev pub as_workstation : Item → Option (Name × Attr)
as_workstation (item.Workstation name attribute) = Some (name, attribute)
as_workstation _ = None

-- the interval that an item says, with its workstation
abbrev pub as_interval : Item → Option (Name × OpenInterval)
as_interval (item.Interval workstation interval) = Some (workstation, interval)
as_interval _ = None

-- the occurrence that an item says, with its priority and deadline
abbrev pub as_occurrence : Item → Option (OccKey × Occurrence)
as_occurrence (item.Occurrence key priority deadline) = Some (key, record { priority = priority; deadline = deadline })
as_occurrence _ = None

-- the operation that an item says
abbrev pub as_operation : Item → Option OperationItem
as_operation (item.Operation operation) = Some operation
as_operation _ = None

-- the predecessor and successor that an item says
abbrev pub as_pair : Item → Option (OpKey × OpKey)
as_pair (item.Dependency predecessor successor) = Some (predecessor, successor)
as_pair _ = None

-- the special resource that an item says, with whether it is available and how much of it there is
abbrev pub as_resource : Item → Option (Name × Stock)
as_resource (item.Resource name available quantity) = Some (name, record { available = available; quantity = quantity })
as_resource _ = None

-- the need that an item says, with its operation
abbrev pub as_need : Item → Option (OpKey × Need)
as_need (item.Need operation need) = Some (operation, need)
as_need _ = None

-- the priority and deadline of an occurrence that is one of these, and zeros for any other
abbrev pub terms_of : List (OccKey × Occurrence) → OccKey → Occurrence
terms_of occurrences c = unwrap_or (fin.get {R = occurrence_cmp} (fin.from_entries occurrences) c) (record { priority = 0; deadline = 0 })

-- the need, if it is of that operation
abbrev pub own_need : OpKey → OpKey × Need → Option Need
own_need o said = cond (eq_by_cmp operation_cmp said.0 o) (Some said.1) None

-- the needs of that operation
abbrev pub needs_of : OpKey → List (OpKey × Need) → List Need
needs_of o needs = filter_map (own_need o) needs

-- the operation that its record says, of an occurrence and with those of these needs that are its own
abbrev pub operation_of : Occurrence → List (OpKey × Need) → OperationItem → Operation
operation_of c needs said = record {
  workstation = said.workstation;
  duration = said.duration;
  r1 = said.r1;
  r2 = said.r2;
  not_before = said.not_before;
  deadline = unwrap_or said.deadline c.deadline;
  needs = usages_of (needs_of said.key needs);
  mark = Unmarked;
  held = false;
  nop = false;
}

-- with its key, and the terms of that one of these occurrences that it belongs to
abbrev pub row_of : List (OccKey × Occurrence) → List (OpKey × Need) → OperationItem → OpKey × Operation
row_of occurrences needs said = (said.key, operation_of (terms_of occurrences said.key.occurrence) needs said)

-- the occurrence of an operation
abbrev pub occurrence_of : OpKey → OccKey
occurrence_of o = o.occurrence

-- an operation of one of these workstations
abbrev pub IsOneOf : List Name → OperationItem → Type 0
IsOneOf names said = Contains names said.workstation

-- an operation of one of these occurrences, which has no more of these needs than it may have
pub record BelongsTo (occurrences : List (OccKey × Occurrence)) (needs : List (OpKey × Need)) (said : OperationItem) : Type 0 where
  pub occurrence : Contains (keys_of occurrences) said.key.occurrence
  pub few_needs : length (needs_of said.key needs) ≤ MOST_NEEDS

-- an operation of one of these workstations and of one of these occurrences, which has no more of these needs than it may have
pub record Fits (names : List Name) (occurrences : List (OccKey × Occurrence)) (needs : List (OpKey × Need)) (said : OperationItem) : Type 0 where
  pub workstation : Contains names said.workstation
  pub occurrence : Contains (keys_of occurrences) said.key.occurrence
  pub few_needs : length (needs_of said.key needs) ≤ MOST_NEEDS

-- the interval, if it is of the workstation of that name
abbrev pub own_interval : Name → Name × OpenInterval → Option OpenInterval
own_interval name said = cond (eq_by_cmp name_cmp said.0 name) (Some said.1) None

-- the intervals of the workstation of that name
abbrev pub intervals_of : Name → List (Name × OpenInterval) → List OpenInterval
intervals_of name intervals = filter_map (own_interval name) intervals

-- no more intervals than a workstation may have, and no two overlap
pub record IsOpening (intervals : List OpenInterval) : Type 0 where
  pub few : length intervals ≤ MOST_INTERVALS
  pub apart : AllPairs AreApart intervals

-- a workstation can be open in those of these intervals that are its own
abbrev pub CanOpen : List (Name × OpenInterval) → Name × Attr → Type 0
CanOpen intervals said = IsOpening (intervals_of said.0 intervals)

-- the workstation, open in them
abbrev pub opened_in : List (Name × OpenInterval) → Name × Attr → NamedWorkstation
opened_in intervals said = workstation_by said.0 said.1 (intervals_of said.0 intervals)

-- each interval is of one of these workstations
abbrev pub AreOfThese : List Name → List (Name × OpenInterval) → Type 0
AreOfThese names intervals = All (λ said. Contains names said.0) intervals

-- no more workstations than a plan may hold, no two have one name, and each can be open in its intervals; there are no others
pub record AreWorkstations (said : List (Name × Attr)) (intervals : List (Name × OpenInterval)) : Type 0 where
  pub few : length said ≤ MOST_WORKSTATIONS
  pub distinct : AllPairs (λ a b. a.0 ≢ b.0) said
  pub opening : All (CanOpen intervals) said
  pub no_others : AreOfThese (keys_of said) intervals

-- the workstations by name, each open in its intervals
pub record AreWorkstationsInOrder (said : List (Name × Attr)) (intervals : List (Name × OpenInterval)) (ordered : List NamedWorkstation) : Type 0 where
  pub are : AreWorkstations said intervals
  pub same : IsPermutation (map (opened_in intervals) said) ordered
  pub in_order : IsStrictlySortedBy name_cmp (keys_of ordered)

-- no more special resources than a plan may hold, and no two have one name
pub record AreResources (said : List (Name × Stock)) : Type 0 where
  pub few : length said ≤ MOST_RESOURCES
  pub distinct : AllPairs (λ a b. a.0 ≢ b.0) said

-- no more occurrences than a plan may hold, and no two have one key
pub record AreOccurrenceRows (said : List (OccKey × Occurrence)) : Type 0 where
  pub few : length said ≤ MOST_OCCURRENCES
  pub distinct : AllPairs (λ a b. a.0 ≢ b.0) said

-- the keys of the operations that are said
abbrev pub keys_said : List OperationItem → List OpKey
keys_said said = map (λ (s : OperationItem). s.key) said

-- each occurrence has an operation of the list
abbrev pub EachHasOperation : List OpKey → List (OccKey × Occurrence) → Type 0
EachHasOperation keys occurrences = All (λ row. Contains (map occurrence_of keys) row.0) occurrences

-- no more operations than a plan may hold: each fits, no two have one key, and each occurrence has one
pub record AreOperations (names : List Name) (occurrences : List (OccKey × Occurrence)) (needs : List (OpKey × Need)) (said : List OperationItem) : Type 0 where
  pub few : length said ≤ MOST_OPERATIONS
  pub fit : All (Fits names occurrences needs) said
  pub distinct : AllPairs (λ a b. a.key ≢ b.key) said
  pub not_empty : EachHasOperation (keys_said said) occurrences

-- what a need is known by: its operation, and the resource
abbrev pub need_key : OpKey × Need → OpKey × Name
need_key said = (said.0, said.1.name)

-- by operation, then resource
abbrev pub need_cmp : OpKey × Name → OpKey × Name → Ordering
need_cmp a b = ordering_then (operation_cmp a.0 b.0) (name_cmp a.1 b.1)

-- a need of one of these operations, of one of these resources
pub record IsNeedIn (keys : List OpKey) (names : List Name) (said : OpKey × Need) : Type 0 where
  pub operation : Contains keys said.0
  pub resource : Contains names said.1.name

-- each is of one of these operations and of one of these resources, and no operation needs a resource twice
pub record AreNeeds (keys : List OpKey) (names : List Name) (said : List (OpKey × Need)) : Type 0 where
  pub within : All (IsNeedIn keys names) said
  pub distinct : AllPairs (λ a b. need_key a ≢ need_key b) said

-- a need of no more than there is of its resource
pub record IsWithinStock (resources : List (Name × Stock)) (said : OpKey × Need) : Type 0 where
  pub within : (stock : Stock) → Contains resources (said.1.name, stock) → said.1.amount ≤ stock.quantity

-- a pair of operations of the list
pub record IsPairIn (keys : List OpKey) (p : OpKey × OpKey) : Type 0 where
  pub first : Contains keys p.0
  pub second : Contains keys p.1

-- no more pairs than a plan may hold: each is of two of these operations, none is repeated, and no path returns to its start
pub record ArePairs (keys : List OpKey) (pairs : List (OpKey × OpKey)) : Type 0 where
  pub few : length pairs ≤ MOST_PAIRS
  pub within : All (IsPairIn keys) pairs
  pub distinct : AllPairs (λ a b. a ≢ b) pairs
  pub acyclic : IsAcyclic (from_list {R = pair_cmp} pairs)

-- the special resources by name
pub record AreResourcesInOrder (said ordered : List (Name × Stock)) : Type 0 where
  pub are : AreResources said
  pub same : IsPermutation said ordered
  pub in_order : IsStrictlySortedBy name_cmp (keys_of ordered)

-- the needs by operation and then resource
abbrev pub AreNeedsInOrder : List (OpKey × Need) → List (OpKey × Need) → Type 0
AreNeedsInOrder said ordered = AreInKeyOrder need_cmp need_key said ordered

-- the occurrences in key order
pub record AreOccurrencesInOrder (said : List (OccKey × Occurrence)) (ordered : List (OccKey × Occurrence)) : Type 0 where
  pub are : AreOccurrenceRows said
  pub same : IsPermutation said ordered
  pub in_order : IsStrictlySortedBy occurrence_cmp (keys_of ordered)

-- the operations' rows in key order
pub record AreRowsOf (names : List Name) (occurrences : List (OccKey × Occurrence)) (needs : List (OpKey × Need)) (said : List OperationItem) (rows : List (OpKey × Operation)) : Type 0 where
  pub operations : AreOperations names occurrences needs said
  pub same : IsPermutation (map (row_of occurrences needs) said) rows
  pub in_order : IsStrictlySortedBy operation_cmp (keys_of rows)

-- the pairs by predecessor and then successor
pub record ArePairsInOrder (keys : List OpKey) (pairs : List (OpKey × OpKey)) (ordered : List (OpKey × OpKey)) : Type 0 where
  pub are : ArePairs keys pairs
  pub same : IsPermutation pairs ordered
  pub in_order : IsStrictlySortedBy pair_cmp ordered

-- the items are those of a plan
pub record CanBeLoaded (items : List Item) : Type 0 where
  pub workstations : AreWorkstations (filter_map as_workstation items) (filter_map as_interval items)
  pub resources : AreResources (filter_map as_resource items)
  pub occurrences : AreOccurrenceRows (filter_map as_occurrence items)
  pub operations : AreOperations (keys_of (filter_map as_workstation items)) (filter_map as_occurrence items) (filter_map as_need items) (filter_map as_operation items)
  pub needs : AreNeeds (keys_said (filter_map as_operation items)) (keys_of (filter_map as_resource items)) (filter_map as_need items)
  pub amounts : All (IsWithinStock (filter_map as_resource items)) (filter_map as_need items)
  pub pairs : ArePairs (keys_said (filter_map as_operation items)) (filter_map as_pair items)

-- rows in order of what the items say
pub record AreRowsOfItems (items : List Item) (rows : Rows) : Type 0 where
  pub items_are : CanBeLoaded items
  pub workstations : IsPermutation (map (opened_in (filter_map as_interval items)) (filter_map as_workstation items)) rows.workstations
  pub resources : IsPermutation (filter_map as_resource items) rows.resources
  pub occurrences : IsPermutation (filter_map as_occurrence items) rows.occurrences
  pub operations : IsPermutation (map (row_of rows.occurrences (filter_map as_need items)) (filter_map as_operation items)) rows.operations
  pub pairs : IsPermutation (filter_map as_pair items) rows.pairs
  pub in_order : AreRowsInOrder rows

-- the contents whose rows are what the items say
abbrev pub AreContentsOf : List Item → Contents → Type 0
AreContentsOf items P = (rows : Rows) × AreRowsOfItems items rows × (P ≡ held_by rows)
