-- The views of a source are those of the plan's occurrences.
use Rattle.std.proofs.Common.{◌≡◌, ◌↔◌, refl, sym, ap, subst, ◌∙◌, arith, ℕ, true, List, map, Contains, slice_get, Some}
use Rattle.std.proofs.lemmas.Option.{slice_get_within, same_Some}
use Rattle.std.specs.FinMap.{contains_key, entries, get}
use Rattle.std.specs.List.Sorted.{IsStrictlySortedBy}
use Rattle.std.specs.Map.{keys_of}
use Rattle.plan_basics.specs.Keys.{occurrence_cmp, occurrence_cmp_total, occurrence_cmp-IsAntisymmetric}
use Rattle.plan_basics.specs.declared.keys.OccKey.{OccKey}
use Rattle.plan_opening.specs.plan_laws.proofs.Waiting.{one_occurrence_status}
use Rattle.plan_model.specs.Contents.{Contents}
use Rattle.plan_model.specs.Status.{HasOccurrenceStatus}
use Rattle.plan_model.specs.declared.Occurrence.{Occurrence}
use Rattle.plan_model.proofs.Entries.{entries_in_order}
use Rattle.plan_records.specs.plan_drafts.proofs.RowPlaces.{row_at}
use Rattle.plan_records.specs.plan_drafts.proofs.Tables.{some_is}
use Rattle.plan_opening.specs.plan_status.proofs.OfOccurrences.{status_counted}
use Rattle.plan_opening.specs.plan_status.specs.Standings.{IsTally}
use Rattle.status_rules.proofs.CountsTable.{first_by_table}
use Rattle.plan_records.specs.plan_drafts.proofs.EntryRows.{among_keys, has_key, row_in}
use Rattle.plan_opening.specs.plan_rows.proofs.SideBySide.{from_viewed, keys_viewed, viewed_at}
use Rattle.plan_opening.specs.plan_rows.specs.Sources.{IsSource}
use Rattle.plan_core.specs.Views.{AreOccViews, IsOccView, occ_view_of, occ_views}
use Rattle.plan_opening.specs.plan_rows.specs.declared.row_sources.RowSource.{RowSource}
use Rattle.plan_core.specs.declared.views.OccView.{OccView}
use Rattle.status_rules.specs.Table.{occurrence_by}
use Rattle.status_rules.specs.declared.Counts.{Counts}
use Rattle.status_rules.specs.declared.OccStatus.{OccStatus}

-- it follows from the numbers, in any plan
abbrev pub FollowsFrom : Counts → OccStatus → Type 0
FollowsFrom n t = (Q : Contents) (c : OccKey) → IsTally Q c n → HasOccurrenceStatus Q c t

module _ (s : RowSource) (source : IsSource s) where
  abbrev P : Contents
  P = s.contents.now

  abbrev rows : List (OccKey × Occurrence)
  rows = entries P.occurrences

  abbrev tallies : List Counts
  tallies = s.tallies.now

  -- the view of a row with its numbers
  abbrev seen : OccKey → Occurrence → Counts → OccView
  seen c x n = occ_view_of ((c, x), n)

  pub row_in_plan : (i : ℕ) (c : OccKey) (x : Occurrence) → slice_get rows i ≡ Some (c, x) → get P.occurrences c ≡ Some x
  row_in_plan = row_in occurrence_cmp_total occurrence_cmp-IsAntisymmetric P.occurrences

  by_numbers : (c : OccKey) (n : Counts) → IsTally P c n → HasOccurrenceStatus P c (occurrence_by n)
  by_numbers c n tally = status_counted P c n tally (occurrence_by n) (first_by_table n)

  is_occ_view : (i : ℕ) (c : OccKey) (x : Occurrence) (n : Counts) → slice_get rows i ≡ Some (c, x) → slice_get tallies i ≡ Some n → IsOccView P (seen c x n)
  is_occ_view i c x n row at =
      let tally = source.tallies.each i c x n row at in
      record {
        is_in_plan = row_in_plan i c x row;
        status = by_numbers c n tally;
        operations = tally.all;
        complete = tally.complete;
      }

  module _ (i : ℕ) (c : OccKey) (x : Occurrence) (n : Counts) (t : OccStatus) where
    -- the view at an index, with the status that follows
    pub occ_view_at : slice_get rows i ≡ Some (c, x) → slice_get tallies i ≡ Some n → FollowsFrom n t → slice_get (occ_views s) i ≡ Some (record (seen c x n) { status = t })
    occ_view_at row at told =
        let tally = source.tallies.each i c x n row at in
        let status = one_occurrence_status P c (occurrence_by n) t (by_numbers c n tally) (told P c tally) in
        viewed_at occ_view_of rows tallies i (c, x) n row at ∙ (λ j. Some (record (seen c x n) { status = status j }))

  occ_keys : map (λ v. v.key) (occ_views s) ≡ keys_of rows
  occ_keys = keys_viewed occ_view_of (λ v. v.key) (λ p. refl) rows tallies source.tallies.size

  in_plan : (c : OccKey) → Contains (keys_of rows) c → contains_key P.occurrences c ≡ true
  in_plan c has = let there = has_key occurrence_cmp_total occurrence_cmp-IsAntisymmetric P.occurrences c has in some_is (get P.occurrences c) there.0 there.1

  pub are_occ_views : AreOccViews P (occ_views s)
  are_occ_views = record {
    in_order = subst (IsStrictlySortedBy occurrence_cmp) (sym occ_keys) (entries_in_order occurrence_cmp P.occurrences);
    every = λ c. subst (λ ks. Contains ks c ↔ (contains_key P.occurrences c ≡ true)) (sym occ_keys) (in_plan c, among_keys occurrence_cmp_total occurrence_cmp-IsAntisymmetric P.occurrences c);
    each = λ v has. let x = from_viewed occ_view_of rows tallies v has in subst (IsOccView P) x.5 (is_occ_view x.0 x.1.0 x.1.1 x.2 x.3 x.4);
  }

  tally_at : (i : ℕ) (c : OccKey) (x : Occurrence) → slice_get rows i ≡ Some (c, x) → (n : Counts) × (slice_get tallies i ≡ Some n)
  tally_at i c x row = row_at tallies i (let lt = slice_get_within rows i (c, x) row in omega (arith, lt, source.tallies.size))

  -- the view at the index of a row
  pub occ_view_is : (i : ℕ) (c : OccKey) (x : Occurrence) (v : OccView) → slice_get rows i ≡ Some (c, x) → slice_get (occ_views s) i ≡ Some v → (v.key ≡ c) × IsOccView P v
  occ_view_is i c x v row at =
      let n = tally_at i c x row in
      let e : seen c x n.0 ≡ v = same_Some (seen c x n.0) v (sym (viewed_at occ_view_of rows tallies i (c, x) n.0 row n.1) ∙ at) in
      (sym (ap (λ w. w.key) e), subst (IsOccView P) e (is_occ_view i c x n.0 row n.1))
