-- The paths of occurrences, one after another.
use Rattle.std.proofs.Common.{◌≡◌, refl, sym, ◌∙◌, ap, ℕ, List, [], ◌∷◌, ◌++◌, append_assoc, append-nil, Contains, slice_get, Option, Some, None, true, is_some}
use Rattle.std.proofs.lemmas.Option.{get_or_from_slice_get, slice_get_within}
use Rattle.plan_reasons.specs.plan_drafts.proofs.Lists.{in_map}
use Rattle.plan_outlooks.specs.Forecasts.{Forecast}
use Rattle.plan_outlooks.specs.Occurrences.{AreOccurrenceOutlooks, IsOccurrenceOutlook, IsOutstandingOccurrence}
use Rattle.plan_outlooks.specs.Paths.{AreLatePaths, StandsBefore}
use Rattle.plan_outlooks.specs.declared.rows.OccurrenceOutlook.{OccurrenceOutlook}
use Rattle.plan_outlooks.specs.declared.rows.PathMember.{PathMember}

module _ (F : Forecast) where
  -- one more occurrence
  pub paths_more : (rows : List OccurrenceOutlook) (paths : List PathMember) (r : OccurrenceOutlook) (path : List PathMember) → AreLatePaths F rows paths → StandsBefore F r.key r.end r.late path
      → AreLatePaths F (rows ++ r ∷ []) (paths ++ path)
  paths_more [] paths r path none stands = (path, [], stands, refl, ap (λ ps. ps ++ path) none ∙ sym (append-nil path))
  paths_more (x ∷ rows) paths r path (first, rest, its, are, same) stands =
      (first, rest ++ path, its, paths_more rows rest r path are stands, ap (λ ps. ps ++ path) same ∙ append_assoc first rest path)

  -- what is told of a row
  pub row_told : (rows : List OccurrenceOutlook) → AreOccurrenceOutlooks F rows → (i : ℕ) (r : OccurrenceOutlook) → slice_get rows i ≡ Some r → IsOutstandingOccurrence F.plan.contents r.key × IsOccurrenceOutlook F r
  row_told rows are i r at =
      let has : Contains rows r = (i, slice_get_within rows i r at, get_or_from_slice_get rows i r r at) in
      ((are.every r.key).0 (in_map (λ (x : OccurrenceOutlook). x.key) rows r has), are.each r has)

-- what is late is by some minutes
pub some_late : (late : Option ℕ) → is_some late ≡ true → (x : ℕ) × (late ≡ Some x)
some_late (Some x) e = (x, refl)
some_late None e = cc
