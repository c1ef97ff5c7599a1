-- A list in key order is known by the rows that it has.
use Rattle.std.proofs.Common.{◌≡◌, ◌≢◌, inl, inr, sym, ap, subst, ◌∙◌, List, [], ◌∷◌, map, Contains}
use Rattle.std.specs.Prelude.{AllPairs}
use Rattle.std.specs.Cmp.{on_total}
use Rattle.std.specs.List.Sorted.{IsStrictlySortedBy}
use Rattle.std.specs.declared.cmp.Ordering.TheVariants.{Less}
use Rattle.std.proofs.lemmas.List.Sorted.{Contains-permutation, IsPermutation-sym}
use Rattle.plan_model.specs.ready_list.proofs.Ordered.{all_of_keys, sorted_by_keys}
use Rattle.plan_drafts.proofs.Lists.{at_member, contains_cases, contains_none, differ_from_pairs, differ_weaken, pairs_from_differ}
use Rattle.plan_drafts.specs.KeyOrder.{AreInKeyOrder}
use Rattle.plan_drafts.specs.RowKeys.{row_cmp_total}
use Rattle.plan_drafts.specs.declared.RowKey.{RowKey}
use Rattle.plan_rows.specs.plan_laws.proofs.Sorted.{not_itself, sorted_unique}
use Rattle.plan_records.specs.Rows.{key_of, row_cmp}
use Rattle.plan_records.specs.declared.PlanRow.{PlanRow}
use Rattle.plan_opening.specs.These.{AreThese}

-- a key isn't below itself
below_itself : (k l : RowKey) → k ≡ l → row_cmp k l ≡ Less → ⊥
below_itself k l e less = not_itself row_cmp_total l (subst (λ z. row_cmp z l ≡ Less) e less)

-- two of its rows with one key are one row
one_key : (all : List PlanRow) → IsStrictlySortedBy row_cmp (map key_of all) → (a b : PlanRow) → Contains all a → Contains all b → key_of a ≡ key_of b → a ≡ b
unfolding IsStrictlySortedBy
one_key [] up a b in_a in_b e = absurd (contains_none a in_a)
one_key (r ∷ all) up a b in_a in_b e =
    let above = all_of_keys key_of row_cmp (λ k. row_cmp (key_of r) k ≡ Less) all up.0 in
    let after = at_member (λ s. row_cmp (key_of r) (key_of s) ≡ Less) all in
    elim (contains_cases r all a in_a) [
      | inl first ↦ elim (contains_cases r all b in_b) [
        | inl same ↦ sym first ∙ same
        | inr later ↦ absurd (below_itself (key_of r) (key_of b) (ap key_of first ∙ e) (after b above later))
      ]
      | inr later ↦ elim (contains_cases r all b in_b) [
        | inl first ↦ absurd (below_itself (key_of r) (key_of a) (ap key_of first ∙ sym e) (after a above later))
        | inr more ↦ one_key all up.1 a b later more e
      ]
    ]

module _ (rows all : List PlanRow) (up : IsStrictlySortedBy row_cmp (map key_of all)) where
  -- rows that are those of the list have no key twice
  pub keys_apart : AreThese rows all → AllPairs (λ a b. key_of a ≢ key_of b) rows
  keys_apart these =
      pairs_from_differ (λ a b. key_of a ≢ key_of b) rows
      (differ_weaken (λ a b. a ≢ b) (λ a b. key_of a ≢ key_of b) rows (λ a b in_a in_b apart e. apart (one_key all up a b ((these.has_all a).0 in_a) ((these.has_all b).0 in_b) e))
      (differ_from_pairs (λ a b. a ≢ b) rows these.once))

  module _ (ordered : List PlanRow) (are : AreInKeyOrder row_cmp key_of rows ordered) where
    to_rows : (r : PlanRow) → Contains ordered r → Contains rows r
    to_rows r has = Contains-permutation ordered rows r (IsPermutation-sym rows ordered are.same) has

    from_rows : (r : PlanRow) → Contains rows r → Contains ordered r
    from_rows r has = Contains-permutation rows ordered r are.same has

    -- rows that, put in key order, are the list, are those of the list
    pub these_from_order : ordered ≡ all → AreThese rows all
    these_from_order same = record {
      has_all = λ r. (λ has. subst (λ rs. Contains rs r) same (from_rows r has), λ has. to_rows r (subst (λ rs. Contains rs r) (sym same) has));
      once = pairs_from_differ (λ a b. a ≢ b) rows
          (differ_weaken (λ a b. key_of a ≢ key_of b) (λ a b. a ≢ b) rows (λ a b in_a in_b apart e. apart (ap key_of e)) (differ_from_pairs (λ a b. key_of a ≢ key_of b) rows are.distinct));
    }

    -- and the way back
    pub order_of_these : AreThese rows all → ordered ≡ all
    order_of_these these =
        sorted_unique (on_total key_of row_cmp_total) ordered all (sorted_by_keys key_of row_cmp ordered are.in_order) (sorted_by_keys key_of row_cmp all up)
        (λ r has. (these.has_all r).0 (to_rows r has)) (λ r has. from_rows r ((these.has_all r).1 has))
