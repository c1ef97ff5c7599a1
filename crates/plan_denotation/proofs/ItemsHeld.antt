-- What items say of occurrences, operations, pairs and needs, where they are those of a plan or of an extension.
use Rattle.std.proofs.Common.{◌≡◌, ◌≢◌, arith, ◌<◌, ◌≤◌, true, List, [], ◌∷◌, length, All, Contains, Some}
use Rattle.std.specs.List.{AllPairs}
use Rattle.std.specs.FinMap.{get, contains_key, len}
use Rattle.std.specs.Map.{keys_of}
use Rattle.std.proofs.lemmas.List.Elements.{All-weaker}
use Rattle.plan_basics.specs.declared.limits.TheConstants.{MOST_NEEDS}
use Rattle.plan_basics.specs.declared.keys.OccKey.{OccKey}
use Rattle.plan_basics.specs.declared.keys.OpKey.{OpKey}
use Rattle.plan_basics.specs.Keys.{occurrence_cmp_total, occurrence_cmp-IsAntisymmetric, operation_cmp_total, operation_cmp-IsAntisymmetric}
use Rattle.plan_items.specs.special_resources.specs.declared.Need.{Need}
use Rattle.plan_items.specs.special_resources.specs.Holdings.{usage_of}
use Rattle.plan_model.specs.Contents.{Contents, Operation, AddedParts, IsPairOf}
use Rattle.plan_model.specs.Valid.{AreOccurrences, AreUntouched}
use Rattle.plan_model.specs.declared.Occurrence.{Occurrence}
use Rattle.plan_items.specs.declared.Item.{Item}
use Rattle.plan_items.specs.declared.Item.TheVariants as item
use Rattle.plan_items.specs.declared.OperationItem.{OperationItem}
use Rattle.plan_drafts.specs.declared.RowKey.{RowKey}
use Rattle.plan_drafts.specs.declared.RowKey.TheVariants as key
use Rattle.plan_drafts.specs.Drafts.{IsDraft, IsExtension}
use Rattle.plan_drafts.specs.Records.{key_of, entered, StandsInAdded, StandsIn, IsItemOf, IsItemOfPlan, AreItems, IsAsSaid}
use Rattle.plan_drafts.specs.PlanItems.{keys_said, needs_of}
use Rattle.plan_drafts.specs.ExtensionItems.{MayComeIn}
use Rattle.plan_drafts.proofs.Lists.{contains_head}
use Rattle.plan_drafts.proofs.Tables.{some_is}
use Rattle.plan_denotation.proofs.NeedsSaid.{NeedsDiffer, as_many_said}
use Rattle.plan_denotation.proofs.ItemKinds as kinds
use Rattle.plan_denotation.proofs.ItemKinds.{needs_in, occurrences_in, operations_in, pairs_in, read_apart, read_stands, key_in, so_many}

-- an item that may be added is there
abbrev pub Stands : AddedParts → Item → Type 0
Stands s i = MayComeIn i → StandsInAdded s i

-- occurrences with their operations and pairs, of which nothing is reported yet: the items that may be added are all that they hold
pub record Holds (items : List Item) (s : AddedParts) : Type 0 where
  pub distinct : AllPairs (λ a b. key_of a ≢ key_of b) items
  pub stand : All (Stands s) items
  pub all : (k : RowKey) → IsItemOf s k → (i : Item) × Contains items i × (key_of i ≡ k)
  pub occurrences : AreOccurrences s.occurrences s.operations
  pub untouched : AreUntouched s.operations

-- those of an extension
pub held_by_extension : (s : AddedParts) → IsExtension s → (items : List Item) → AreItems (StandsInAdded s) (IsItemOf s) items → Holds items s
held_by_extension s extension items are = record {
  distinct = are.distinct;
  stand = All-weaker (StandsInAdded s) (Stands s) (λ i h may. h) items are.stand;
  all = are.all;
  occurrences = extension.occurrences;
  untouched = extension.untouched;
}

-- those of a plan
pub held_by_plan : (P : Contents) → IsDraft P → (items : List Item) → AreItems (StandsIn P) (IsItemOfPlan P) items → Holds items (entered P)
held_by_plan P draft items are = record {
  distinct = are.distinct;
  stand = All-weaker (StandsIn P) (Stands (entered P)) stand items are.stand;
  all = λ k e. are.all k (part k e);
  occurrences = draft.valid.occurrences;
  untouched = draft.untouched;
}
  where
    stand : (i : Item) → StandsIn P i → Stands (entered P) i
    stand (item.Workstation n x) h = λ may. absurd may
    stand (item.Interval n x) h = λ may. absurd may
    stand (item.Resource n x q) h = λ may. absurd may
    stand _ h = λ may. h

    part : (k : RowKey) → IsItemOf (entered P) k → IsItemOfPlan P k
    part (key.Workstation w) e = absurd e
    part (key.Interval w m) e = absurd e
    part (key.Resource r) e = absurd e
    part _ e = e

module _ {items : List Item} {s : AddedParts} (held : Holds items s) where
  pub occurrence_is : (y : OccKey × Occurrence) → Contains (occurrences_in items) y → get s.occurrences y.0 ≡ Some y.1
  occurrence_is y has = read_stands kinds.occurrences (Stands s) items held.stand y has tt

  pub occurrence_in : (c : OccKey) → contains_key s.occurrences c ≡ true → Contains (keys_of (occurrences_in items)) c
  occurrence_in c e = key_in kinds.occurrences items c (held.all (key.Occurrence c) e)

  pub occurrences_count : length (occurrences_in items) ≡ len s.occurrences
  occurrences_count =
      so_many kinds.occurrences occurrence_cmp_total occurrence_cmp-IsAntisymmetric items held.distinct s.occurrences
      (λ y has. some_is (get s.occurrences y.0) y.1 (occurrence_is y has)) (λ c. held.all (key.Occurrence c))

  pub operation_is : (y : OperationItem) → Contains (operations_in items) y → (op : Operation) × (c : Occurrence) × (get s.operations y.key ≡ Some op) × (get s.occurrences y.key.occurrence ≡ Some c) × IsAsSaid y c op
  operation_is y has = read_stands kinds.operations (Stands s) items held.stand y has tt

  pub operation_in : (o : OpKey) → contains_key s.operations o ≡ true → Contains (keys_said (operations_in items)) o
  operation_in o e = key_in kinds.operations items o (held.all (key.Operation o) e)

  pub operations_count : length (operations_in items) ≡ len s.operations
  operations_count =
      so_many kinds.operations operation_cmp_total operation_cmp-IsAntisymmetric items held.distinct s.operations
      (λ y has. let is = operation_is y has in some_is (get s.operations y.key) is.0 is.2) (λ o. held.all (key.Operation o))

  pub pair_is : (y : OpKey × OpKey) → Contains (pairs_in items) y → IsPairOf s.pairs y.0 y.1
  pair_is y has = read_stands kinds.pairs (Stands s) items held.stand y has tt

  pub need_is : (y : OpKey × Need) → Contains (needs_in items) y → (op : Operation) × (get s.operations y.0 ≡ Some op) × (get op.needs y.1.name ≡ Some (usage_of y.1))
  need_is y has = read_stands kinds.needs (Stands s) items held.stand y has tt

  -- an operation has no more needs than it may have
  pub few_of : (o : OpKey) (op : Operation) → get s.operations o ≡ Some op → length (needs_of o (needs_in items)) ≤ MOST_NEEDS
  few_of o op there =
      let apart : NeedsDiffer (needs_in items) = read_apart kinds.needs items held.distinct in
      let most : len op.needs ≤ MOST_NEEDS = (held.occurrences.each_operation o op there).0.few_needs in
      let count = as_many_said (needs_in items) apart s.operations need_is o op there (λ r e. key_in kinds.needs items (o, r) (held.all (key.Need o r) (op, there, e))) in
      omega (arith, most, count)
