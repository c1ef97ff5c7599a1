-- Where items are those of an extension, they can be added together, kind by kind.
use Rattle.std.proofs.Common.{inl, inr, sym, subst, ap, ◌∙◌, List, map, Contains}
use Rattle.std.specs.FinMap.{get}
use Rattle.std.specs.Map.{keys_of}
use Rattle.plan_basics.specs.declared.keys.OccKey.{OccKey}
use Rattle.plan_basics.specs.declared.keys.OpKey.{OpKey}
use Rattle.plan_model.specs.Contents.{AddedParts}
use Rattle.plan_model.specs.declared.Occurrence.{Occurrence}
use Rattle.plan_items.specs.declared.Item.{Item}
use Rattle.plan_items.specs.declared.Item.TheVariants as item
use Rattle.plan_items.specs.declared.OperationItem.{OperationItem}
use Rattle.plan_drafts.specs.Drafts.{IsOwn, IsEnd, IsExtension}
use Rattle.plan_drafts.specs.Records.{StandsInAdded, IsItemOf, AreItems}
use Rattle.plan_drafts.specs.PlanItems.{BelongsTo, keys_said, occurrence_of}
use Rattle.plan_drafts.specs.ExtensionItems.{MayComeIn, IsNeedOf, IsEndAmong, IsPairAmong, ComeInTogether}
use Rattle.plan_drafts.proofs.Lists.{in_map, from_map, all_by_members}
use Rattle.plan_drafts.proofs.Tables.{some_is}
use Rattle.plan_denotation.proofs.ItemKinds as kinds
use Rattle.plan_denotation.proofs.ItemKinds.{occurrences_in, operations_in, needs_in, pairs_in, read_distinct}
use Rattle.plan_denotation.proofs.ItemsHeld.{Holds, held_by_extension, few_of, need_is, occurrence_in, occurrence_is, operation_in, operation_is, pair_is}
use Rattle.std.proofs.lemmas.List.Elements.{All-contains}

module _ (s : AddedParts) (extension : IsExtension s) (items : List Item) (are : AreItems (StandsInAdded s) (IsItemOf s) items) where
  held : Holds items s
  held = held_by_extension s extension items are

  may : (i : Item) → StandsInAdded s i → MayComeIn i
  may (item.Workstation w t) h = h
  may (item.Interval w x) h = h
  may (item.Resource r available quantity) h = h
  may _ h = tt

  belongs : (y : OperationItem) → Contains (operations_in items) y → BelongsTo (occurrences_in items) (needs_in items) y
  belongs y has =
      let is = operation_is held y has in
      record { occurrence = occurrence_in held y.key.occurrence (some_is (get s.occurrences y.key.occurrence) is.1 is.3); few_needs = few_of held y.key is.0 is.2 }

  has_operation : (y : OccKey × Occurrence) → Contains (occurrences_in items) y → Contains (map occurrence_of (keys_said (operations_in items))) y.0
  has_operation y has =
      let o = extension.occurrences.not_empty y.0 (some_is (get s.occurrences y.0) y.1 (occurrence_is held y has)) in
      subst (Contains (map occurrence_of (keys_said (operations_in items)))) o.1 (in_map occurrence_of (keys_said (operations_in items)) o.0 (operation_in held o.0 o.2))

  own_there : (o : OpKey) → Contains (keys_of (occurrences_in items)) o.occurrence → IsOwn s o
  own_there o has =
      let row = from_map (λ (row : OccKey × Occurrence). row.0) (occurrences_in items) o.occurrence has in
      some_is (get s.occurrences o.occurrence) row.0.1 (ap (get s.occurrences) (sym row.2) ∙ occurrence_is held row.0 row.1)

  among : (o : OpKey) → IsEnd s o → IsEndAmong (keys_of (occurrences_in items)) (keys_said (operations_in items)) o
  among o end = λ own. operation_in held o (end.1 (own_there o own))

  pub needed_extension : ComeInTogether items
  needed_extension = record {
    may = all_by_members MayComeIn items (λ i has. may i (All-contains (StandsInAdded s) items i are.stand has));
    occurrences = read_distinct kinds.occurrences items are.distinct;
    operations = record {
      belong = all_by_members (BelongsTo (occurrences_in items) (needs_in items)) (operations_in items) belongs;
      distinct = read_distinct kinds.operations items are.distinct;
      not_empty = all_by_members (λ y. Contains (map occurrence_of (keys_said (operations_in items))) y.0) (occurrences_in items) has_operation;
    };
    needs = record {
      within = all_by_members (IsNeedOf (keys_said (operations_in items))) (needs_in items) (λ y has. let is = need_is held y has in operation_in held y.0 (some_is (get s.operations y.0) is.0 is.1));
      distinct = read_distinct kinds.needs items are.distinct;
    };
    pairs = record {
      among = all_by_members (IsPairAmong (keys_of (occurrences_in items)) (keys_said (operations_in items))) (pairs_in items) (λ y has.
          let so = extension.pairs y.0 y.1 (pair_is held y has) in
          record {
            own = elim so.2 [ inl first ↦ inl (occurrence_in held y.0.occurrence first) | inr second ↦ inr (occurrence_in held y.1.occurrence second) ];
            first = among y.0 so.0;
            second = among y.1 so.1;
          });
      distinct = read_distinct kinds.pairs items are.distinct;
    };
  }
