-- The parts of occurrences that are added together, as they are said and in order.
use Rattle.std.proofs.Common.{◌≡◌, inl, inr, sym, subst, arith, List, map, length, All, Contains}
use Rattle.std.specs.List.Sorted.{IsPermutation}
use Rattle.std.specs.Map.{keys_of}
use Rattle.std.proofs.lemmas.List.Elements.{All-weaker}
use Rattle.std.proofs.lemmas.List.Sorted.{All-permutation, IsPermutation-sym}
use Rattle.plan_basics.specs.declared.keys.OccKey.{OccKey}
use Rattle.plan_basics.specs.declared.keys.OpKey.{OpKey}
use Rattle.plan_basics.specs.Keys.{occurrence_cmp}
use Rattle.plan_items.specs.special_resources.specs.declared.Need.{Need}
use Rattle.plan_model.specs.Contents.{Operation}
use Rattle.plan_model.specs.declared.Occurrence.{Occurrence}
use Rattle.plan_items.specs.declared.Item.{Item}
use Rattle.plan_items.specs.declared.OperationItem.{OperationItem}
use Rattle.plan_drafts.specs.declared.contents.ExtensionParts.{ExtensionParts}
use Rattle.plan_drafts.specs.ExtensionItems.{MayComeIn, IsNeedOf, IsPairAmong, ArePairsAmong, ArePairsAmongInOrder, AreTheirOperations, AreTheirRows, ComeInTogether, AreExtensionOf}
use Rattle.plan_drafts.specs.KeyOrder.{AreInKeyOrder}
use Rattle.plan_drafts.specs.PlanItems.{BelongsTo, AreNeedsInOrder, keys_said, needs_of, occurrence_of, terms_of}
use Rattle.plan_denotation.proofs.InOrder.{operation_in}
use Rattle.plan_denotation.proofs.ItemKinds.{occurrences_in, operations_in, needs_in, pairs_in}
use Rattle.plan_drafts.proofs.Keyed.{key_to_row, row_to_key}
use Rattle.plan_drafts.proofs.Lists.{keys_permuted}
use Rattle.plan_denotation.proofs.NeedsSaid.{need_counts, rows_alike}

abbrev Pair : Type 0
Pair = OpKey × OpKey

abbrev Terms : Type 0
Terms = List (OccKey × Occurrence)

abbrev Wants : Type 0
Wants = List (OpKey × Need)

-- the occurrences in key order
abbrev pub AreInOrder : Terms → Terms → Type 0
AreInOrder said ordered = AreInKeyOrder occurrence_cmp (λ (row : OccKey × Occurrence). row.0) said ordered

-- ---- what is said goes by which keys there are, in any order
pairs_over : (os ps : List OccKey) (ks ls : List OpKey) (pairs : List Pair) → ArePairsAmong os ks pairs → ((c : OccKey) → Contains os c → Contains ps c) → ((c : OccKey) → Contains ps c → Contains os c) → ((o : OpKey) → Contains ks o → Contains ls o) → ArePairsAmong ps ls pairs
pairs_over os ps ks ls pairs are more less all = record {
  among = All-weaker (IsPairAmong os ks) (IsPairAmong ps ls) (λ p is. record {
    own = elim is.own [ inl first ↦ inl (more _ first) | inr second ↦ inr (more _ second) ];
    first = λ own. all p.0 (is.first (less _ own));
    second = λ own. all p.1 (is.second (less _ own));
  }) pairs are.among;
  distinct = are.distinct;
}

needs_over : (ks ls : List OpKey) (needs others : Wants) → All (IsNeedOf ks) needs → IsPermutation needs others → ((o : OpKey) → Contains ks o → Contains ls o) → All (IsNeedOf ls) others
needs_over ks ls needs others all same keys = All-weaker (IsNeedOf ks) (IsNeedOf ls) (λ said. keys said.0) others (All-permutation (IsNeedOf ks) needs others same all)

operations_over : (os ps : Terms) (needs others : Wants) (said : List OperationItem) → AreTheirOperations os needs said → IsPermutation os ps → ((o : OpKey) → length (needs_of o needs) ≡ length (needs_of o others)) → AreTheirOperations ps others said
operations_over os ps needs others said are same counts = record {
  belong = All-weaker (BelongsTo os needs) (BelongsTo ps others) (λ s is. record {
    occurrence = keys_permuted os ps same s.key.occurrence is.occurrence;
    few_needs = let few = is.few_needs in let count = counts s.key in omega (arith, few, count);
  }) said are.belong;
  distinct = are.distinct;
  not_empty = All-permutation (λ row. Contains (map occurrence_of (keys_said said)) row.0) os ps same are.not_empty;
}

-- ---- the whole
module _ (items : List Item) (ordered : Terms) (in_order : AreInOrder (occurrences_in items) ordered) (sorted : Wants) (needs : AreNeedsInOrder (needs_in items) sorted) where
  back : IsPermutation ordered (occurrences_in items)
  back = IsPermutation-sym (occurrences_in items) ordered in_order.same

  pub no_operations_join : ¬ AreTheirOperations ordered sorted (operations_in items) → ¬ ComeInTogether items
  no_operations_join none can = none (operations_over (occurrences_in items) ordered (needs_in items) sorted (operations_in items) can.operations in_order.same (need_counts (needs_in items) sorted needs))

  module _ (rows : List (OpKey × Operation)) (made : AreTheirRows ordered sorted (operations_in items) rows) where
    keys : (o : OpKey) → Contains (keys_said (operations_in items)) o → Contains (keys_of rows) o
    keys = key_to_row (λ (s : OperationItem). s.key) (operation_in ordered sorted) (operations_in items) rows made.same

    pub no_needs_join : ¬ All (IsNeedOf (keys_of rows)) sorted → ¬ ComeInTogether items
    no_needs_join none can = none (needs_over (keys_said (operations_in items)) (keys_of rows) (needs_in items) sorted can.needs.within needs.same keys)

    pub no_pairs_join : ¬ ArePairsAmong (keys_of ordered) (keys_of rows) (pairs_in items) → ¬ ComeInTogether items
    no_pairs_join none can =
        none (pairs_over (keys_of (occurrences_in items)) (keys_of ordered) (keys_said (operations_in items)) (keys_of rows) (pairs_in items) can.pairs
        (keys_permuted (occurrences_in items) ordered in_order.same) (keys_permuted ordered (occurrences_in items) back) keys)

pub parts_join :
    (items : List Item) (n : ExtensionParts) (sorted : Wants) → All MayComeIn items → AreInOrder (occurrences_in items) n.occurrences.items → AreNeedsInOrder (needs_in items) sorted →
    AreTheirRows n.occurrences.items sorted (operations_in items) n.operations.items → All (IsNeedOf (keys_of n.operations.items)) sorted →
    ArePairsAmongInOrder (keys_of n.occurrences.items) (keys_of n.operations.items) (pairs_in items) n.pairs.items → AreExtensionOf items n
parts_join items n sorted may in_order needs rows within pairs =
    let keys = row_to_key (λ (s : OperationItem). s.key) (operation_in n.occurrences.items sorted) (operations_in items) n.operations.items rows.same in
    let back = IsPermutation-sym (occurrences_in items) n.occurrences.items in_order.same in
    record {
      come_in = record {
        may = may;
        occurrences = in_order.distinct;
        operations = operations_over n.occurrences.items (occurrences_in items) sorted (needs_in items) (operations_in items) rows.operations back (λ o. sym (need_counts (needs_in items) sorted needs o));
        needs = record { within = needs_over (keys_of n.operations.items) (keys_said (operations_in items)) sorted (needs_in items) within (IsPermutation-sym (needs_in items) sorted needs.same) keys; distinct = needs.distinct };
        pairs = pairs_over (keys_of n.occurrences.items) (keys_of (occurrences_in items)) (keys_of n.operations.items) (keys_said (operations_in items)) (pairs_in items) pairs.are
            (keys_permuted n.occurrences.items (occurrences_in items) back) (keys_permuted (occurrences_in items) n.occurrences.items in_order.same) keys;
      };
      occurrences = in_order.same;
      operations = subst (λ rs. IsPermutation rs n.operations.items) (sym (rows_alike (needs_in items) sorted needs (λ s. terms_of n.occurrences.items s.key.occurrence) (operations_in items))) rows.same;
      pairs = pairs.same;
      occurrences_in_order = in_order.in_order;
      operations_in_order = rows.in_order;
      pairs_in_order = pairs.in_order;
    }
