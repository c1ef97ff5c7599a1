-- The occurrences, listed.
use Rattle.std.proofs.Common.{◌≡◌, arith, ℕ, ◌+◌, ◌≤◌, true, List, [], ◌++◌, length, Option, Some, None, refl, is_some, slice_get}
use Rattle.std.specs.Prelude.{MatchOption}
use Rattle.std.specs.FinMap.{entries, get}
use Rattle.std.specs.Option.{option_to_list}
use Rattle.std.proofs.lemmas.Option.{slice_get_within}
use Rattle.plan_basics.specs.Keys.{occurrence_cmp, occurrence_cmp_total, occurrence_cmp-IsAntisymmetric}
use Rattle.plan_basics.specs.declared.keys.OccKey.{OccKey}
use Rattle.plan_model.specs.declared.Occurrence.{Occurrence}
use Rattle.plan_model.proofs.Entries.{entries_in_order}
use Rattle.plan_reasons.specs.plan_drafts.proofs.EntryRows.{entry_of, row_in}
use Rattle.plan_outlooks.specs.Forecasts.{Forecast}
use Rattle.plan_outlooks.specs.Occurrences.{AreOccurrenceOutlooks, IsOccurrenceOutlook, IsOutstandingOccurrence}
use Rattle.plan_outlooks.specs.declared.rows.OccurrenceOutlook.{OccurrenceOutlook}
use Rattle.plan_outlooks.proofs.Listing.{AreUpTo, all_listed, none_among, none_yet, one_more}

abbrev pub key_of : OccurrenceOutlook → OccKey
key_of r = r.key

-- those of the first n occurrences
abbrev pub OccurrencesUpTo : Forecast → ℕ → List OccurrenceOutlook → Type 0
OccurrencesUpTo F n rows = AreUpTo occurrence_cmp (entries F.plan.contents.occurrences) key_of (IsOutstandingOccurrence F.plan.contents) (IsOccurrenceOutlook F) n rows

some_value : (found : Option Occurrence) → is_some found ≡ true → (x : Occurrence) × (found ≡ Some x)
some_value (Some x) e = (x, refl)
some_value None e = cc

module _ (F : Forecast) where
  abbrev es : List (OccKey × Occurrence)
  es = entries F.plan.contents.occurrences

  pub occurrence_at : (i : ℕ) (k : OccKey) (x : Occurrence) → slice_get es i ≡ Some (k, x) → get F.plan.contents.occurrences k ≡ Some x
  occurrence_at i k x at = row_in occurrence_cmp_total occurrence_cmp-IsAntisymmetric F.plan.contents.occurrences i k x at

  pub no_occurrences_yet : OccurrencesUpTo F 0 []
  no_occurrences_yet =
      none_yet occurrence_cmp_total es (entries_in_order occurrence_cmp F.plan.contents.occurrences) key_of (IsOutstandingOccurrence F.plan.contents) (IsOccurrenceOutlook F) 0 (λ k is. absurd (none_among es k is))

  pub occurrence_more : (n : ℕ) (k : OccKey) (x : Occurrence) → slice_get es n ≡ Some (k, x) → (rows : List OccurrenceOutlook) → OccurrencesUpTo F n rows → (told : Option OccurrenceOutlook)
      → MatchOption told (¬ IsOutstandingOccurrence F.plan.contents k) (λ r. (r.key ≡ k) × IsOutstandingOccurrence F.plan.contents k × IsOccurrenceOutlook F r) → OccurrencesUpTo F (n + 1) (rows ++ option_to_list told)
  occurrence_more n k x at rows a told says =
      one_more occurrence_cmp_total es (entries_in_order occurrence_cmp F.plan.contents.occurrences) key_of (IsOutstandingOccurrence F.plan.contents) (IsOccurrenceOutlook F) n k x at rows a told says

  pub occurrences_listed : (n : ℕ) → length es ≤ n → (rows : List OccurrenceOutlook) → OccurrencesUpTo F n rows → AreOccurrenceOutlooks F rows
  occurrences_listed n all rows a =
      all_listed occurrence_cmp_total es (entries_in_order occurrence_cmp F.plan.contents.occurrences) key_of (IsOutstandingOccurrence F.plan.contents) (IsOccurrenceOutlook F) n
      (λ k is.
      let v = some_value (get F.plan.contents.occurrences k) is.0 in
      let r = entry_of occurrence_cmp_total occurrence_cmp-IsAntisymmetric F.plan.contents.occurrences k v.0 v.1 in
      (r.0, v.0, (let within = slice_get_within es r.0 (k, v.0) r.1 in omega (arith, within, all)), r.1))
      rows a
