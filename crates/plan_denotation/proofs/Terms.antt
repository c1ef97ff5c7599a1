-- Occurrences in key order, and their terms.
use Rattle.std.proofs.Common.{◌≡◌, refl, arith, ◌+◌, get_or, sym, ap, ◌∙◌, false, List, Contains, Some, unwrap_or}
use Rattle.std.specs.FinMap.{get, from_entries}
use Rattle.std.specs.List.Sorted.{IsSortedBy, IsStrictlySortedBy}
use Rattle.std.specs.Ordering.{is_lt, ordering_reverse, ordering_then}
use Rattle.std.specs.declared.cmp.Ordering.{Ordering}
use Rattle.std.specs.declared.cmp.Ordering.TheVariants.{Less, Equal, Greater}
use Rattle.std.proofs.lemmas.Map.Keys.{Less-from_sorted}
use Rattle.std.specs.Map.{keys_of}
use Rattle.plan_basics.specs.declared.keys.OccKey.{OccKey}
use Rattle.plan_basics.specs.declared.keys.OpKey.{OpKey}
use Rattle.plan_basics.specs.Keys.{operation_cmp, occurrence_cmp, occurrence_cmp_total, occurrence_cmp-IsAntisymmetric}
use Rattle.plan_model.specs.declared.Occurrence.{Occurrence}
use Rattle.plan_drafts.specs.PlanItems.{terms_of}
use Rattle.plan_drafts.proofs.Lists.{from_map}
use Rattle.plan_drafts.proofs.Tables.{some_is, rows_apart, get_row, key_found}

module _ (occurrences : List (OccKey × Occurrence)) where
  -- the terms that are found are those of the occurrence
  terms_found : (k : OccKey) (terms : Occurrence) → get {R = occurrence_cmp} (from_entries occurrences) k ≡ Some terms → terms_of occurrences k ≡ terms
  terms_found k terms e = ap (λ o. unwrap_or o (record { priority = 0; deadline = 0 })) e

  -- an occurrence that has terms is one of them
  pub found_key : (k : OccKey) (terms : Occurrence) → get {R = occurrence_cmp} (from_entries occurrences) k ≡ Some terms → Contains (keys_of occurrences) k
  found_key k terms e = key_found occurrence_cmp_total occurrence_cmp-IsAntisymmetric occurrences k (some_is _ terms e)

  module _ (up : IsStrictlySortedBy occurrence_cmp (keys_of occurrences)) where
    row_there : (k : OccKey) → Contains (keys_of occurrences) k → (terms : Occurrence) × (get {R = occurrence_cmp} (from_entries occurrences) k ≡ Some terms)
    row_there k has =
        let r = from_map (λ (row : OccKey × Occurrence). row.0) occurrences k has in
        (r.0.1, ap (get (from_entries occurrences)) (sym r.2) ∙ get_row occurrence_cmp_total occurrence_cmp-IsAntisymmetric occurrences r.0.0 r.0.1 (rows_apart occurrence_cmp_total occurrence_cmp-IsAntisymmetric occurrences up) r.1)

    -- an occurrence that is one of them has terms
    pub terms_there : (k : OccKey) → Contains (keys_of occurrences) k → get {R = occurrence_cmp} (from_entries occurrences) k ≡ Some (terms_of occurrences k)
    terms_there k has = let r = row_there k has in r.1 ∙ ap (λ t. Some t) (sym (terms_found k r.0 r.1))

-- ---- the order of operations
not_later : (r s : Ordering) → ordering_then r s ≡ Less → is_lt (ordering_reverse r) ≡ false
not_later Less s e = refl
not_later Equal s e = refl
not_later Greater s e = cc

-- keys in order are in order of their occurrences
pub by_occurrence : (keys : List OpKey) → IsStrictlySortedBy operation_cmp keys → IsSortedBy (λ a b. is_lt (occurrence_cmp a.occurrence b.occurrence)) keys
by_occurrence keys up = λ k d low high.
    let a = get_or keys k d in
    let b = get_or keys (k + 1) d in
    ap is_lt (occurrence_cmp_total.antisymm b.occurrence a.occurrence) ∙ not_later (occurrence_cmp a.occurrence b.occurrence) _ (Less-from_sorted operation_cmp keys k (k + 1) d up (omega arith) high)
