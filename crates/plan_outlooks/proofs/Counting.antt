-- How many of an occurrence's operations never begin, one after another.
use Rattle.std.proofs.Common.{◌≡◌, refl, ◌∙◌, ap, arith, ℕ, ◌+◌, ◌<◌, ◌≤◌, List, [], ◌∷◌, ◌++◌, length, map, Some, None, slice_get}
use Rattle.std.specs.FinMap.{entries}
use Rattle.std.proofs.lemmas.List.{append-nil, length-append}
use Rattle.plan_basics.specs.Keys.{operation_cmp, operation_cmp_total}
use Rattle.plan_basics.specs.declared.keys.OccKey.{OccKey}
use Rattle.plan_basics.specs.declared.keys.OpKey.{OpKey}
use Rattle.plan_model.specs.Contents.{Operation}
use Rattle.plan_model.proofs.Entries.{entries_in_order}
use Rattle.plan_records.specs.Rows.{IsCount}
use Rattle.plan_reasons.specs.plan_drafts.proofs.Lists.{length_map}
use Rattle.plan_reasons.specs.plan_drafts.proofs.RowPlaces.{row_at}
use Rattle.plan_outlooks.specs.Forecasts.{Forecast, StaysOut}
use Rattle.plan_outlooks.specs.Lent.{IsOfRow}
use Rattle.plan_outlooks.specs.Spans.{AreOperationsOf}
use Rattle.plan_outlooks.proofs.Listing.{AreUpTo, all_listed, none_yet, one_more}
use Rattle.plan_outlooks.proofs.OperationRows.{row_of}

-- the operation itself
abbrev pub itself : OpKey → OpKey
itself o = o

-- o is of the occurrence, and never begins
abbrev pub NeverOf : Forecast → OccKey → OpKey → Type 0
NeverOf F c o = (o.occurrence ≡ c) × StaysOut F o

-- so many of the first n operations are so
abbrev pub CountUpTo : Forecast → OccKey → ℕ → ℕ → Type 0
CountUpTo F c n count = (os : List OpKey) × AreUpTo operation_cmp (entries F.plan.contents.operations) itself (NeverOf F c) (λ o. Unit {0}) n os × (length os ≡ count)

module _ (F : Forecast) (c : OccKey) (first end : ℕ) (are : AreOperationsOf F.plan.contents c first end) where
  abbrev es : List (OpKey × Operation)
  es = entries F.plan.contents.operations

  pub none_counted : CountUpTo F c first 0
  none_counted = (
    [],
    none_yet operation_cmp_total es (entries_in_order operation_cmp F.plan.contents.operations) itself (NeverOf F c) (λ o. Unit {0}) first
        (λ o among so. let at = (are.are among.0 o among.1 among.3).0 so.0 in let low = at.0 in let high = among.2 in omega (arith, low, high)),
    refl,
  )

  module _ (n count : ℕ) (low : first ≤ n) (high : n < end) (h : CountUpTo F c n count) where
    within : n < length es
    within = let bound = are.within in omega (arith, high, bound)

    abbrev row : (x : OpKey × Operation) × (slice_get es n ≡ Some x)
    row = row_at es n within

    its : row.0.0.occurrence ≡ c
    its = (are.are n row.0.0 row.0.1 row.1).1 (low, high)

    pub counted : ((o : OpKey) → IsOfRow F n o → StaysOut F o) → CountUpTo F c (n + 1) (count + 1)
    counted never = (
      h.0 ++ row.0.0 ∷ [],
      one_more operation_cmp_total es (entries_in_order operation_cmp F.plan.contents.operations) itself (NeverOf F c) (λ o. Unit {0}) n row.0.0 row.0.1 row.1 h.0 h.1 (Some row.0.0)
          (refl, (its, never row.0.0 (row.0.1, row.1)), tt),
      length-append h.0 (row.0.0 ∷ []) ∙ ap (λ k. k + 1) h.2,
    )

    pub not_counted : ((o : OpKey) → IsOfRow F n o → ¬ StaysOut F o) → CountUpTo F c (n + 1) count
    not_counted begins = (
      h.0 ++ [],
      one_more operation_cmp_total es (entries_in_order operation_cmp F.plan.contents.operations) itself (NeverOf F c) (λ o. Unit {0}) n row.0.0 row.0.1 row.1 h.0 h.1 None
          (λ so. begins row.0.0 (row.0.1, row.1) so.1),
      ap length (append-nil h.0) ∙ h.2,
    )

  pub all_counted : (n count : ℕ) → end ≤ n → CountUpTo F c n count → IsCount (NeverOf F c) count
  all_counted n count past h =
      let a =
      all_listed operation_cmp_total es (entries_in_order operation_cmp F.plan.contents.operations) itself (NeverOf F c) (λ o. Unit {0}) n
      (λ o so.
      let op = so.1.0.0.0 in
      let r = row_of F.plan.contents o op.0 op.1 in
      let at = (are.are r.0 o op.0 r.1).0 so.0 in
      (r.0, op.0, (let up = at.1 in omega (arith, up, past)), r.1))
      h.0 h.1 in
      (map itself h.0, a.in_order, a.every, length_map itself h.0 ∙ h.2)
