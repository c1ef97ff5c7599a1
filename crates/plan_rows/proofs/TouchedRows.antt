-- The rows of operations and of occurrences where some operations were touched: their keys stay, and so do the rows elsewhere.
use Rattle.std.proofs.Common.{◌≡◌, ◌<◌, refl, sym, ap, ◌∙◌, arith, ℕ, List, [], length, map, slice_get, Contains, true, true≢false, is_some, IsNone, IsSome, Option, Some, None}
use Rattle.std.specs.FinMap.{FinMap, contains_key, entries, from_entries, get, get-empty}
use Rattle.std.specs.List.{zip}
use Rattle.std.specs.Map.{keys_of}
use Rattle.std.proofs.lemmas.List.{length-map}
use Rattle.std.proofs.lemmas.Option.{slice_get_within}
use Rattle.plan_basics.specs.Keys.{occurrence_cmp, occurrence_cmp-IsAntisymmetric, occurrence_cmp_total, operation_cmp, operation_cmp_total}
use Rattle.plan_basics.specs.declared.keys.OccKey.{OccKey}
use Rattle.plan_basics.specs.declared.keys.OpKey.{OpKey}
use Rattle.derived_figures.specs.plan_laws.proofs.Every.{nothing_at}
use Rattle.plan_model.proofs.Entries.{entries_are}
use Rattle.plan_model.specs.Contents.{Operation, nothing}
use Rattle.plan_model.specs.declared.Occurrence.{Occurrence}
use Rattle.plan_records.specs.declared.PlanRow.{PlanRow}
use Rattle.plan_rows.proofs.MovedRows.{mapped_alike, same_elsewhere, same_keys, zipped_alike}
use Rattle.plan_rows.proofs.NoRows.{none_kept}
use Rattle.plan_rows.proofs.SourceRows.{occurrence_keys_kept, operation_keys_kept}
use Rattle.plan_rows.specs.Rows.{if_any, keyed_occurrence, keyed_occurrences, keyed_operation, keyed_operations, rows_of}
use Rattle.plan_rows.specs.Sources.{IsSourceIfAny, contents_if_any}
use Rattle.plan_rows.specs.Touched.{AreOccurrencesOf, AreTouched, known_if_any, tallies_if_any}
use Rattle.plan_rows.specs.declared.row_sources.RowSource.{RowSource}

-- the rows of a source are made of what is kept, side by side
operations_beside : (source : Option RowSource) → if_any keyed_operations source ≡ map keyed_operation (zip (entries (contents_if_any source).operations) (known_if_any source))
operations_beside None = ap (λ xs. map keyed_operation (zip xs [])) (none_kept operation_cmp_total)
operations_beside (Some s) = refl

occurrences_beside : (source : Option RowSource) → if_any keyed_occurrences source ≡ map keyed_occurrence (zip (entries (contents_if_any source).occurrences) (tallies_if_any source))
occurrences_beside None = ap (λ xs. map keyed_occurrence (zip xs [])) (none_kept occurrence_cmp_total)
occurrences_beside (Some s) = refl

pub within_keys : {K X : Type 0} (rows : List (K × X)) (keys : List K) → keys ≡ keys_of rows → (i : ℕ) → i < length rows → i < length keys
within_keys {K} {X} rows keys same i lt = let e = ap length same in let f = length-map rows (λ (z : K × X). z.0) in omega (arith, lt, e, f)

-- the occurrence of an operation of a source is there
pub occurrence_known : (source : Option RowSource) → IsSourceIfAny source → (o : OpKey) (op : Operation) → get (contents_if_any source).operations o ≡ Some op → contains_key (contents_if_any source).occurrences o.occurrence ≡ true
occurrence_known None is o op at = nothing_at (get nothing.operations o) op (get-empty operation_cmp o) at
occurrence_known (Some s) is o op at = (is.sound.valid.occurrences.each_operation o op at).1

-- so that a search by its key finds it
pub found_by_key : (m : FinMap occurrence_cmp Occurrence) (rows : List (OccKey × Occurrence)) (k : OccKey) → rows ≡ entries m → contains_key m k ≡ true → (r : Option ℕ) → (IsNone r → get {R = occurrence_cmp} (from_entries rows) k ≡ None) → IsSome r
found_by_key m rows k same known (Some i) absent = refl
found_by_key m rows k same known None absent =
    let none : get m k ≡ None = ap (λ n. get n k) (sym (ap (from_entries {R = occurrence_cmp}) same ∙ entries_are occurrence_cmp occurrence_cmp_total occurrence_cmp-IsAntisymmetric m)) ∙ absent refl in
    absurd (true≢false (sym known ∙ ap is_some none))

module _ (before after : Option RowSource) (was : IsSourceIfAny before) (is : IsSourceIfAny after) (touched : List ℕ) (h : AreTouched before after touched) where
  -- ---- operations
  pub operation_keys_stay : keys_of (if_any keyed_operations after) ≡ keys_of (if_any keyed_operations before)
  operation_keys_stay = operation_keys_kept after is ∙ (same_keys (contents_if_any before) (contents_if_any after) touched h.moved ∙ sym (operation_keys_kept before was))

  pub operations_within : (i : ℕ) → Contains touched i → i < length (keys_of (if_any keyed_operations before))
  operations_within i has = within_keys (entries (contents_if_any before).operations) (keys_of (if_any keyed_operations before)) (operation_keys_kept before was) i (h.within i has)

  pub operations_elsewhere : (i : ℕ) → ¬ Contains touched i → slice_get (rows_of (if_any keyed_operations after)) i ≡ slice_get (rows_of (if_any keyed_operations before)) i
  operations_elsewhere i not =
      let uncounted = zipped_alike (entries (contents_if_any after).operations) (entries (contents_if_any before).operations) (known_if_any after) (known_if_any before) i
      (same_elsewhere (contents_if_any before) (contents_if_any after) touched h.moved i not) (h.known i not)
      in
      let keyed = mapped_alike keyed_operation (zip (entries (contents_if_any after).operations) (known_if_any after)) (zip (entries (contents_if_any before).operations) (known_if_any before)) i uncounted in
      mapped_alike (λ (x : OpKey × PlanRow). x.1) (if_any keyed_operations after) (if_any keyed_operations before) i
      (ap (λ rows. slice_get rows i) (operations_beside after) ∙ (keyed ∙ ap (λ rows. slice_get rows i) (sym (operations_beside before))))

  -- ---- occurrences
  pub occurrence_keys_stay : keys_of (if_any keyed_occurrences after) ≡ keys_of (if_any keyed_occurrences before)
  occurrence_keys_stay = occurrence_keys_kept after is ∙ (ap (λ kept. keys_of (entries kept)) h.moved.moved.occurrences ∙ sym (occurrence_keys_kept before was))

  module _ (places : List ℕ) (are : AreOccurrencesOf (contents_if_any before) touched places) where
    pub occurrences_within : (p : ℕ) → Contains places p → p < length (keys_of (if_any keyed_occurrences before))
    occurrences_within p has =
        let (i, among, at) = (are.all p).0 has in
        within_keys (entries (contents_if_any before).occurrences) (keys_of (if_any keyed_occurrences before)) (occurrence_keys_kept before was) p (slice_get_within (entries (contents_if_any before).occurrences) p (at.o.occurrence, at.terms) at.occurrence)

    pub occurrences_elsewhere : (p : ℕ) → ¬ Contains places p → slice_get (rows_of (if_any keyed_occurrences after)) p ≡ slice_get (rows_of (if_any keyed_occurrences before)) p
    occurrences_elsewhere p not =
        let uncounted = zipped_alike (entries (contents_if_any after).occurrences) (entries (contents_if_any before).occurrences) (tallies_if_any after) (tallies_if_any before) p
        (ap (λ kept. slice_get (entries kept) p) h.moved.moved.occurrences) (h.tallies p (λ one. not ((are.all p).1 one)))
        in
        let keyed = mapped_alike keyed_occurrence (zip (entries (contents_if_any after).occurrences) (tallies_if_any after)) (zip (entries (contents_if_any before).occurrences) (tallies_if_any before)) p uncounted in
        mapped_alike (λ (x : OccKey × PlanRow). x.1) (if_any keyed_occurrences after) (if_any keyed_occurrences before) p
        (ap (λ rows. slice_get rows p) (occurrences_beside after) ∙ (keyed ∙ ap (λ rows. slice_get rows p) (sym (occurrences_beside before))))
