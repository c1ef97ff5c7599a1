-- The occurrences of operations whose places ascend.
use Rattle.std.proofs.Common.{◌≡◌, inl, inr, sym, ap, subst, ◌∙◌, arith, ℕ, ◌+◌, ◌<◌, ◌≤◌, false, List, [], ◌∷◌, length, get_or, eqb, slice_get, Contains, Some, option_map}
use Rattle.std.specs.Cmp.{nat_cmp_total}
use Rattle.std.specs.FinMap.{entries}
use Rattle.std.specs.List.{AllZip, dedup}
use Rattle.std.specs.List.Sorted.{IsSorted, IsStrictlySortedBy}
use Rattle.std.specs.Map.{keys_of}
use Rattle.std.specs.Ordering.{eq_by_cmp, is_lt, nat_cmp, ordering_reverse, ordering_then}
use Rattle.std.specs.declared.cmp.Ordering.{Ordering}
use Rattle.std.specs.declared.cmp.Ordering.TheVariants.{Less, Greater}
use Rattle.std.proofs.lemmas.Bool.{cases_lt}
use Rattle.std.proofs.lemmas.Bool.Decides.{nat_tests}
use Rattle.std.proofs.lemmas.Cmp.{ranked}
use Rattle.std.proofs.lemmas.List.Elements.{AllZip-get_or, length_all_zip}
use Rattle.std.proofs.lemmas.List.Kept.{Contains-dedup_nat, Contains-from_dedup, IsStrictlySortedBy-dedup}
use Rattle.std.proofs.lemmas.Option.{same_Some, slice_get-get_or, slice_get-map, slice_get_within}
use Rattle.plan_basics.proofs.Members.{contains_cases, contains_head, contains_later, contains_none}
use Rattle.plan_basics.specs.Keys.{occurrence_cmp, occurrence_cmp_total, operation_cmp}
use Rattle.plan_basics.specs.declared.keys.OccKey.{OccKey}
use Rattle.plan_basics.specs.declared.keys.OpKey.{OpKey}
use Rattle.plan_records.specs.plan_drafts.proofs.KeyPlaces.{one_place}
use Rattle.plan_model.proofs.Entries.{entries_in_order}
use Rattle.plan_model.specs.Contents.{Contents, Operation}
use Rattle.plan_model.specs.declared.Occurrence.{Occurrence}
use Rattle.row_differences.proofs.Merging.{lower}
use Rattle.plan_rows.specs.Touched.{AreOccurrencesOf, BelongsAt, HasOneOf}

module _ (P : Contents) where
  abbrev operations : List (OpKey × Operation)
  operations = entries P.operations

  abbrev occurrences : List (OccKey × Occurrence)
  occurrences = entries P.occurrences

  abbrev BelongsTo : ℕ → ℕ → Type 0
  BelongsTo = BelongsAt P

  key_there : {K X : Type 0} (rows : List (K × X)) (i : ℕ) (k : K) (x : X) → slice_get rows i ≡ Some (k, x) → slice_get (keys_of rows) i ≡ Some k
  key_there {K} {X} rows i k x at = slice_get-map (λ (z : K × X). z.0) rows i ∙ ap (option_map (λ (z : K × X). z.0)) at

  first_part : (a b : Ordering) → ordering_then a b ≡ Less → a ≡ Greater → ⊥
  first_part a b e f = cc

  -- of two operations, the later one belongs to the same occurrence or to a later one
  later_belongs : (i j p q : ℕ) → BelongsTo i p → BelongsTo j q → i < j → p ≤ q
  later_belongs i j p q a b lt = elim (cases_lt q p) [
    | inr le ↦ le
    | inl gt ↦
        let back : occurrence_cmp b.o.occurrence a.o.occurrence ≡ Less =
        lower occurrence_cmp (keys_of occurrences) q p b.o.occurrence a.o.occurrence (entries_in_order occurrence_cmp P.occurrences) gt (key_there occurrences q b.o.occurrence b.terms b.occurrence) (key_there occurrences p a.o.occurrence a.terms a.occurrence)
        in
        let up : operation_cmp a.o b.o ≡ Less = lower operation_cmp (keys_of operations) i j a.o b.o (entries_in_order operation_cmp P.operations) lt (key_there operations i a.o a.op a.operation) (key_there operations j b.o b.op b.operation) in
        absurd (first_part (occurrence_cmp a.o.occurrence b.o.occurrence) (nat_cmp a.o.number b.o.number) up (occurrence_cmp_total.antisymm a.o.occurrence b.o.occurrence ∙ ap ordering_reverse back))
  ]

  module _ (touched : List ℕ) (up : IsStrictlySortedBy nat_cmp touched) (places : List ℕ) (belong : AllZip BelongsTo touched places) where
    not_less : (m n : ℕ) → n ≤ m → is_lt (nat_cmp m n) ≡ false
    not_less m n le = grind (arith, nat_tests)

    in_order : IsSorted nat_cmp places
    in_order k d low high =
        let size = length_all_zip BelongsTo touched places belong in
        let lt : k + 1 < length touched = omega (arith, high, size) in
        let here = AllZip-get_or BelongsTo touched places k 0 d belong (omega (arith, lt)) in
        let next = AllZip-get_or BelongsTo touched places (k + 1) 0 d belong lt in
        let above = lower nat_cmp touched k (k + 1) (get_or touched k 0) (get_or touched (k + 1) 0) up (omega arith) (slice_get-get_or touched k 0 (omega (arith, lt))) (slice_get-get_or touched (k + 1) 0 lt) in
        not_less (get_or places (k + 1) d) (get_or places k d) (later_belongs (get_or touched k 0) (get_or touched (k + 1) 0) (get_or places k d) (get_or places (k + 1) d) here next (ranked (get_or touched k 0) (get_or touched (k + 1) 0) Less (sym above)))

  -- each is one of them, and all are there
  from_places : (touched places : List ℕ) → AllZip BelongsTo touched places → (p : ℕ) → Contains places p → HasOneOf P touched p
  from_places [] [] belong p has = absurd (contains_none p has)
  from_places [] (q ∷ places) belong p has = absurd belong
  from_places (i ∷ touched) [] belong p has = absurd belong
  from_places (i ∷ touched) (q ∷ places) belong p has = elim (contains_cases q places p has) [
    | inl same ↦ (i, contains_head i touched, subst (BelongsTo i) same belong.0)
    | inr later ↦ let h = from_places touched places belong.1 p later in (h.0, contains_later i touched h.0 h.1, h.2)
  ]

  at_place : (touched places : List ℕ) → AllZip BelongsTo touched places → (i : ℕ) → Contains touched i → (p : ℕ) × Contains places p × BelongsTo i p
  at_place [] places belong i has = absurd (contains_none i has)
  at_place (j ∷ touched) [] belong i has = absurd belong
  at_place (j ∷ touched) (q ∷ places) belong i has = elim (contains_cases j touched i has) [
    | inl same ↦ (q, contains_head q places, subst (λ z. BelongsTo z q) same belong.0)
    | inr later ↦ let h = at_place touched places belong.1 i later in (h.0, contains_later q places h.0 h.1, h.2)
  ]

  to_places : (touched places : List ℕ) → AllZip BelongsTo touched places → (p : ℕ) → HasOneOf P touched p → Contains places p
  to_places touched places belong p (i, among, h) =
      let (q, has, b) = at_place touched places belong i among in
      let same : ◌≡◌ {A = OpKey × Operation} (b.o, b.op) (h.o, h.op) = same_Some (b.o, b.op) (h.o, h.op) (sym b.operation ∙ h.operation) in
      let there = key_there occurrences q b.o.occurrence b.terms b.occurrence ∙ (λ t. Some ((same t).0.occurrence)) in
      let one : q ≡ p = one_place occurrence_cmp_total (keys_of occurrences) (entries_in_order occurrence_cmp P.occurrences) q p h.o.occurrence there (key_there occurrences p h.o.occurrence h.terms h.occurrence) in
      subst (Contains places) one has

  tied_numbers : (x y : ℕ) → eqb x y ≡ eq_by_cmp nat_cmp x y
  tied_numbers x y = grind (arith, nat_tests)

  -- where each operation belongs, each place once
  pub are_occurrences_of : (touched : List ℕ) → IsStrictlySortedBy nat_cmp touched → (places : List ℕ) → AllZip BelongsTo touched places → AreOccurrencesOf P touched (dedup eqb places)
  are_occurrences_of touched up places belong = record {
    ascend = IsStrictlySortedBy-dedup nat_cmp_total tied_numbers places (in_order touched up places belong);
    all = λ i. (
      λ has. from_places touched places belong i (Contains-from_dedup eqb places i has),
      λ h. Contains-dedup_nat places i (to_places touched places belong i h),
    );
  }

  -- they are all there
  pub places_within : (touched places : List ℕ) → AreOccurrencesOf P touched places → (p : ℕ) → Contains places p → p < length occurrences
  places_within touched places are p has = let (i, among, b) = (are.all p).0 has in slice_get_within occurrences p (b.o.occurrence, b.terms) b.occurrence
