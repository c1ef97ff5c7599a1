-- What was named and isn't started, and what goes on longer than planned: of each the longest first.
use Rattle.std.specs.Prelude.{ℕ, ◌+◌, ◌-◌, Bool, true, false, List, Option, Some, None, filter, is_some, unwrap_or}
use Rattle.std.specs.List.Sorted.{IsPermutation, IsSortedByKey, IsStableByKey}
use Rattle.std.specs.Ordering.{nat_cmp}
use Rattle.plan_reasons.specs.declared.reasons.Beginning.{Beginning}
use Rattle.plan_reasons.specs.declared.reasons.Beginning.TheVariants as beginning
use Rattle.plan_outlooks.specs.declared.rows.OperationOutlook.{OperationOutlook}

-- whether it was named, and its start isn't reported
abbrev pub is_named_only : Beginning → Bool
is_named_only beginning.Named = true
is_named_only b = false

-- these rows in the order of their places; in the order in which they stood where these are the same
pub record AreByPlace (place : OperationOutlook → ℕ) (rows sorted : List OperationOutlook) : Type 0 where
  pub same : IsPermutation rows sorted
  pub in_order : IsSortedByKey place nat_cmp sorted
  pub stable : IsStableByKey place nat_cmp rows sorted

-- since when it was named: what isn't known of comes first
abbrev pub since_place : Option ℕ → ℕ
since_place (Some m) = m + 1
since_place None = 0

-- those of these operations that were named and aren't started, what was named first comes first
abbrev pub AreNamed : List OperationOutlook → List OperationOutlook → Type 0
AreNamed rows named = AreByPlace (λ r. since_place r.since) (filter (λ r. is_named_only r.beginning) rows) named

-- when it was to end, counted back from the last minute that a plan can name
abbrev pub end_place : Option ℕ → ℕ
end_place over = 52595999 - unwrap_or over 0

-- those that go on longer than planned, what was to end first comes first
abbrev pub AreOver : List OperationOutlook → List OperationOutlook → Type 0
AreOver rows over = AreByPlace (λ r. end_place r.over) (filter (λ r. is_some r.over) rows) over
