-- What lists of items say of occurrences that are added, kind by kind.
use Rattle.std.specs.Prelude.{◌≢◌, ◌⊎◌, List, map, All, Contains}
use Rattle.std.specs.List.{AllPairs, filter_map}
use Rattle.std.specs.List.Sorted.{IsPermutation, IsStrictlySortedBy}
use Rattle.std.specs.Map.{keys_of}
use Rattle.plan_basics.specs.declared.keys.OccKey.{OccKey}
use Rattle.plan_basics.specs.declared.keys.OpKey.{OpKey}
use Rattle.plan_basics.specs.Keys.{occurrence_cmp, operation_cmp}
use Rattle.plan_items.specs.special_resources.specs.declared.Need.{Need}
use Rattle.plan_model.specs.Contents.{Operation, pair_cmp}
use Rattle.plan_model.specs.declared.Occurrence.{Occurrence}
use Rattle.plan_items.specs.declared.Item.{Item}
use Rattle.plan_items.specs.declared.Item.TheVariants as item
use Rattle.plan_items.specs.declared.OperationItem.{OperationItem}
use Rattle.plan_drafts.specs.declared.contents.ExtensionParts.{ExtensionParts}
use Rattle.plan_drafts.specs.PlanItems.{BelongsTo, EachHasOperation, as_occurrence, as_operation, as_pair, as_need, keys_said, need_key, row_of}

-- an occurrence, an operation, a pair or a need may be added
abbrev pub MayComeIn : Item → Type 0
MayComeIn (item.Workstation name attribute) = ⊥
MayComeIn (item.Interval workstation interval) = ⊥
MayComeIn (item.Resource name available quantity) = ⊥
MayComeIn _ = Unit {0}

-- a need of one of these operations
abbrev pub IsNeedOf : List OpKey → OpKey × Need → Type 0
IsNeedOf keys said = Contains keys said.0

-- each is of one of these operations, and no operation needs a resource twice
pub record AreNewNeeds (keys : List OpKey) (said : List (OpKey × Need)) : Type 0 where
  pub within : All (IsNeedOf keys) said
  pub distinct : AllPairs (λ a b. need_key a ≢ need_key b) said

-- an end of none of these occurrences, or one of these operations
abbrev pub IsEndAmong : List OccKey → List OpKey → OpKey → Type 0
IsEndAmong occurrences keys o = Contains occurrences o.occurrence → Contains keys o

-- a pair with at least one end in these occurrences; its ends there are among these operations
pub record IsPairAmong (occurrences : List OccKey) (keys : List OpKey) (p : OpKey × OpKey) : Type 0 where
  pub own : Contains occurrences p.0.occurrence ⊎ Contains occurrences p.1.occurrence
  pub first : IsEndAmong occurrences keys p.0
  pub second : IsEndAmong occurrences keys p.1

-- each pair is such, and none is repeated
pub record ArePairsAmong (occurrences : List OccKey) (keys : List OpKey) (pairs : List (OpKey × OpKey)) : Type 0 where
  pub among : All (IsPairAmong occurrences keys) pairs
  pub distinct : AllPairs (λ a b. a ≢ b) pairs

-- the pairs by predecessor and then successor
pub record ArePairsAmongInOrder (occurrences : List OccKey) (keys : List OpKey) (pairs : List (OpKey × OpKey)) (ordered : List (OpKey × OpKey)) : Type 0 where
  pub are : ArePairsAmong occurrences keys pairs
  pub same : IsPermutation pairs ordered
  pub in_order : IsStrictlySortedBy pair_cmp ordered

-- each operation is of one of these occurrences, no two have one key, and each occurrence has one
pub record AreTheirOperations (occurrences : List (OccKey × Occurrence)) (needs : List (OpKey × Need)) (said : List OperationItem) : Type 0 where
  pub belong : All (BelongsTo occurrences needs) said
  pub distinct : AllPairs (λ a b. a.key ≢ b.key) said
  pub not_empty : EachHasOperation (keys_said said) occurrences

-- the operations' rows in key order
pub record AreTheirRows (occurrences : List (OccKey × Occurrence)) (needs : List (OpKey × Need)) (said : List OperationItem) (rows : List (OpKey × Operation)) : Type 0 where
  pub operations : AreTheirOperations occurrences needs said
  pub same : IsPermutation (map (row_of occurrences needs) said) rows
  pub in_order : IsStrictlySortedBy operation_cmp (keys_of rows)

-- the items are those of occurrences that are added, of any number
pub record ComeInTogether (items : List Item) : Type 0 where
  pub may : All MayComeIn items
  pub occurrences : AllPairs (λ a b. a.0 ≢ b.0) (filter_map as_occurrence items)
  pub operations : AreTheirOperations (filter_map as_occurrence items) (filter_map as_need items) (filter_map as_operation items)
  pub needs : AreNewNeeds (keys_said (filter_map as_operation items)) (filter_map as_need items)
  pub pairs : ArePairsAmong (keys_of (filter_map as_occurrence items)) (keys_said (filter_map as_operation items)) (filter_map as_pair items)

-- the occurrences that the items say, with their operations and pairs, in order
pub record AreExtensionOf (items : List Item) (n : ExtensionParts) : Type 0 where
  pub come_in : ComeInTogether items
  pub occurrences : IsPermutation (filter_map as_occurrence items) n.occurrences.items
  pub operations : IsPermutation (map (row_of n.occurrences.items (filter_map as_need items)) (filter_map as_operation items)) n.operations.items
  pub pairs : IsPermutation (filter_map as_pair items) n.pairs.items
  pub occurrences_in_order : IsStrictlySortedBy occurrence_cmp (keys_of n.occurrences.items)
  pub operations_in_order : IsStrictlySortedBy operation_cmp (keys_of n.operations.items)
  pub pairs_in_order : IsStrictlySortedBy pair_cmp n.pairs.items
