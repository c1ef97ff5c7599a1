-- What is looked at for a request that is tried in the plan.
use Rattle.std.proofs.Common.{◌⊎◌, inl, inr, arith, ℕ, ◌≤◌, Bool, true, false, cond, List, map, count_by}
use Rattle.std.proofs.lemmas.List.Sums.{sum_by-le-sum_by}
use Rattle.std.specs.List.Sorted.{IsStrictlySortedBy}
use Rattle.request_outcomes.proofs.KnownRows.{known_fit}
use Rattle.request_outcomes.specs.Looked.{CoverRows, is_known_operation}
use Rattle.plan_records.specs.Rows.{key_of, row_cmp}
use Rattle.plan_records.specs.declared.PlanRow.{PlanRow}
use Rattle.plan_records.specs.declared.PlanRow.TheVariants as row
use Rattle.plan_model.specs.Contents.{Contents}
use Rattle.plan_model.specs.Valid.{IsSound}
use Rattle.small_requests.specs.plan_rows.specs.Notes.{is_operation}

module _ (P : Contents) where
  at_most_one : (b : Bool) → cond b 1 0 ≤ 1
  at_most_one true = omega arith
  at_most_one false = omega arith

  by_row : (r : PlanRow) → cond (is_known_operation P r) 1 0 ≤ cond (is_operation r) 1 0
  by_row (row.Meta version loaded clock) = omega arith
  by_row (row.Workstation name a) = omega arith
  by_row (row.Interval w i) = omega arith
  by_row (row.Resource name available) = omega arith
  by_row (row.Occurrence c priority deadline status) = omega arith
  by_row (row.Operation r) = at_most_one (is_known_operation P (row.Operation r))
  by_row (row.Dependency p s) = omega arith
  by_row (row.Need o r mode keep) = omega arith
  by_row (row.Quantity r quantity) = omega arith
  by_row (row.Amount o r amount) = omega arith

  -- rows of operations that P has are rows of operations
  known_are_operations : (rows : List PlanRow) → count_by (is_known_operation P) rows ≤ count_by is_operation rows
  known_are_operations rows = sum_by-le-sum_by (λ r. cond (is_known_operation P r) 1 0) (λ r. cond (is_operation r) 1 0) rows by_row

module _ (P : Contents) (noted before after : ℕ) (sound : IsSound P) (rows : List PlanRow) (ascend : IsStrictlySortedBy row_cmp (map key_of rows)) where
  -- looks that are no fewer than what is noted cover what is told of it
  pub tried_covers : count_by is_operation rows ≤ noted → before ≤ after → (18446744073709551615 ≤ before) ⊎ (noted ≤ before) → CoverRows P rows after
  tried_covers told onward (inl full) = omega (arith, known_fit P sound rows ascend, onward, full)
  tried_covers told onward (inr each) = omega (arith, known_are_operations P rows, told, onward, each)
