-- The interval of a workstation that contains a minute, by its intervals in order of time.
use Rattle.std.proofs.Common.{◌≡◌, ◌∙◌, refl, sym, ap, subst, ℕ, ◌<◌, List, [], ◌∷◌, map, get_or, length, option_map, slice_get, Some}
use Rattle.std.proofs.lemmas.Option.{slice_get-get_or, slice_get-map}
use Rattle.std.specs.Cmp.{nat_cmp_total}
use Rattle.std.specs.FinMap.{entries, from_entries, get, nat_cmp-IsAntisymmetric}
use Rattle.std.specs.List.Sorted.{IsStrictlySortedBy}
use Rattle.std.specs.Ordering.{nat_cmp}
use Rattle.plan_basics.specs.Intervals.{IsOpenAt, OpenInterval}
use Rattle.plan_model.proofs.Entries.{rows_in_order}
use Rattle.plan_reasons.proofs.Openings.{keys_by, row_by}
use Rattle.plan_reasons.specs.Reasons.{IsClosedAt}
use Rattle.plan_reasons.specs.plan_drafts.proofs.RowPlaces.{get_at}
use Rattle.workstations.proofs.Lookups.{got_among}
use Rattle.workstations.specs.Workstations.{Workstation}
use Rattle.plan_shows.specs.Intervals.{intervals_of}

-- the intervals of rows are those that the rows were made of
of_rows : (items : List OpenInterval) → map (λ (row : ℕ × OpenInterval). row.1) (map row_by items) ≡ items
of_rows [] = refl
of_rows (x ∷ items) = ap (λ xs. x ∷ xs) (of_rows items)

module _ (ws : Workstation) (items : List OpenInterval) (same : ws.intervals ≡ from_entries (map row_by items)) (sorted : IsStrictlySortedBy nat_cmp (map (λ (x : OpenInterval). x.from) items)) where
  -- what is at an index is the workstation's
  pub its_interval : (i : ℕ) (x : OpenInterval) → i < length items → x ≡ get_or items i x → get ws.intervals x.from ≡ Some x
  its_interval i x within at =
      let there : slice_get (map row_by items) i ≡ Some (x.from, x) =
      slice_get-map row_by items i ∙ ap (option_map row_by) (slice_get-get_or items i x within) ∙ ap (λ y. Some (row_by y)) (sym at) in
      ap (λ all. get all x.from) same ∙ get_at nat_cmp nat_cmp_total nat_cmp-IsAntisymmetric (map row_by items) (subst (IsStrictlySortedBy nat_cmp) (sym (keys_by items)) sorted) i x.from x there

  -- where none contains the minute, it is closed
  pub none_contains : (m : ℕ) → ((k : ℕ) (d : OpenInterval) → k < length items → ¬ IsOpenAt (get_or items k d) m) → IsClosedAt ws m
  none_contains m passed capacity (from, x, got, contains, is) =
      let among = got_among items from x (ap (λ all. get all from) (sym same) ∙ got) in
      passed among.1.0 x among.1.1 (subst (λ y. IsOpenAt y m) (sym among.1.2) contains)

  -- they are all of its intervals, by first minute
  pub its_intervals : items ≡ intervals_of ws
  its_intervals =
      let rows : entries ws.intervals ≡ map row_by items = ap entries same ∙ rows_in_order nat_cmp_total (map row_by items) (subst (IsStrictlySortedBy nat_cmp) (sym (keys_by items)) sorted) in
      sym (ap (map (λ (row : ℕ × OpenInterval). row.1)) rows ∙ of_rows items)
