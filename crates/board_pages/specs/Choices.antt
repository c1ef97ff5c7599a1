-- Which rows each part of a page lists, and in which order.
use Rattle.std.specs.Prelude.{◌&&◌, Bool, true, false, not, ℕ, ℤ, pos, ◌-ℤ◌, List, filter, Option, Some, None, is_some}
use Rattle.std.specs.List.Sorted.{IsPermutation, IsSortedByKey, IsStableByKey}
use Rattle.std.specs.Ordering.{bool_cmp, int_cmp, ordering_then}
use Rattle.std.specs.declared.cmp.Ordering.{Ordering}
use Rattle.forecast_texts.specs.plan_outlooks.specs.declared.rows.OccurrenceOutlook.{OccurrenceOutlook}
use Rattle.forecast_texts.specs.plan_outlooks.specs.declared.rows.OperationOutlook.{OperationOutlook}
use Rattle.forecast_texts.specs.plan_outlooks.specs.declared.rows.Standstill.{Standstill}
use Rattle.forecast_texts.specs.plan_outlooks.specs.plan_reasons.specs.declared.reasons.Beginning.{Beginning}
use Rattle.forecast_texts.specs.plan_outlooks.specs.plan_reasons.specs.declared.reasons.Beginning.TheVariants as beginning
use Rattle.status_rules.specs.declared.Status.{Status}
use Rattle.status_rules.specs.declared.Status.TheVariants as status

-- whether a status is error or undecided
abbrev pub is_trouble : Status → Bool
is_trouble status.Error = true
is_trouble status.Undecided = true
is_trouble s = false

-- whether what never begins is in error or undecided
abbrev pub is_troubled : Standstill → Bool
is_troubled r = is_trouble r.status

-- whether a status is another than waiting
abbrev pub is_not_waiting : Status → Bool
is_not_waiting status.Waiting = false
is_not_waiting s = true

-- whether what never begins doesn't wait for another, so that nothing comes of it until somebody acts
abbrev pub needs_somebody : Standstill → Bool
needs_somebody r = is_not_waiting r.status

-- whether a start is reported
abbrev pub is_reported : Beginning → Bool
is_reported beginning.Reported = true
is_reported b = false

-- whether an operation runs
abbrev pub runs : OperationOutlook → Bool
runs r = is_reported r.beginning

-- whether it is going and it isn't known since when
abbrev pub is_going_since_unknown : OperationOutlook → Bool
is_going_since_unknown r = r.is_going && not r.is_known

-- whether the forecast doesn't end an occurrence
abbrev pub has_no_end : OccurrenceOutlook → Bool
has_no_end r = not (is_some r.end)

-- whether it will be late: it ends after its deadline, or hasn't ended by a minute after that
abbrev pub is_late : OccurrenceOutlook → Bool
is_late r = is_some r.late

-- by how many minutes an end is before a deadline; where there is no end, the minute of the deadline
abbrev pub spare : ℕ → Option ℕ → ℤ
spare deadline (Some m) = pos deadline -ℤ pos m
spare deadline None = pos deadline

-- what an occurrence's place goes by: whether it has an end, and how much time there is to spare, or else its deadline
abbrev pub place : OccurrenceOutlook → Bool × ℤ
place r = (is_some r.end, spare r.deadline r.end)

-- those without an end first, by deadline, and then the least time to spare
abbrev pub place_cmp : Bool × ℤ → Bool × ℤ → Ordering
place_cmp a b = ordering_then (bool_cmp a.0 b.0) (int_cmp a.1 b.1)

-- these rows in the order of their keys, and in their own where these are the same
pub record AreInOrder {R K : Type 0} (key : R → K) (order : K → K → Ordering) (rows sorted : List R) : Type 0 where
  pub same : IsPermutation rows sorted
  pub in_order : IsSortedByKey key order sorted
  pub stable : IsStableByKey key order rows sorted

-- the occurrences, those without an end first, by deadline, and then the least time to spare
abbrev pub AreBySpare : List OccurrenceOutlook → List OccurrenceOutlook → Type 0
AreBySpare = AreInOrder place place_cmp

-- of what never begins that which needs somebody, what has to start first comes first
abbrev pub AreByLatest : List Standstill → List Standstill → Type 0
AreByLatest rows sorted = AreInOrder (λ (r : Standstill). r.latest) int_cmp (filter needs_somebody rows) sorted
