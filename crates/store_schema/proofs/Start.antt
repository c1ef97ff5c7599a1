-- What the tables hold before a plan is loaded.
use Rattle.std.proofs.Common.{inl, inr, refl, sym, ap, subst, ◌∙◌, false, option_map}
use Rattle.std.proofs.lemmas.Bool.{true≢false}
use Rattle.std.specs.FinMap.{get, get-empty}
use Rattle.std.specs.FinSet as set
use Rattle.plan_basics.specs.Keys.{name_cmp, occurrence_cmp, operation_cmp}
use Rattle.tracker_receipts.specs.plan_laws.proofs.Every.{nothing_at}
use Rattle.tracker_receipts.specs.plan_model.specs.Contents.{nothing, pair_cmp}
use Rattle.tracker_receipts.specs.plan_model.specs.Plan.{no_plan}
use Rattle.tracker_receipts.specs.plan_records.specs.Rows.{IsRow}
use Rattle.tracker_receipts.specs.plan_records.specs.declared.PlanRow.{PlanRow}
use Rattle.tracker_receipts.specs.plan_records.specs.declared.PlanRow.TheVariants as row
use Rattle.store_schema.specs.StoredPlans.{none_held}
use Rattle.store_schema.specs.WrittenTables.{HoldRows, with_row}
use Rattle.store_schema.proofs.RowPut.{WithRow, row_put, rows_alike}

-- no row
abbrev NoRow : PlanRow → Type 0
NoRow r = ⊥

nothing_held : HoldRows NoRow none_held
nothing_held = record {
  metas = λ x. (λ has. absurd has, λ it. absurd it.3);
  workstations = λ x. (λ has. absurd has, λ it. absurd it.2);
  intervals = λ x. (λ has. absurd has, λ it. absurd it.2);
  resources = λ x. (λ has. absurd has, λ it. absurd it.2);
  occurrences = λ x. (λ has. absurd has, λ it. absurd it.4);
  operations = λ x. (λ has. absurd has, λ it. absurd it.1);
  dependencies = λ x. (λ has. absurd has, λ it. absurd it.2);
  needs = λ x. (λ has. absurd has, λ it. absurd it.4);
  quantities = λ x. (λ has. absurd has, λ it. absurd it.2);
  amounts = λ x. (λ has. absurd has, λ it. absurd it.3);
}

-- the one row: nothing is loaded, and the clock is at the first minute
only_row : (r : PlanRow) → IsRow no_plan r → WithRow (row.Meta 2 false 0) NoRow r
only_row (row.Meta version loaded clock) h = inl (λ i. row.Meta (h.0 i) (h.1 i) (h.2 i))
only_row (row.Workstation name a) h = nothing_at (option_map (λ ws. ws.attribute) (get nothing.workstations name)) a (ap (option_map (λ ws. ws.attribute)) (get-empty name_cmp name)) h
only_row (row.Interval w i) h = nothing_at (get nothing.workstations w) h.0 (get-empty name_cmp w) h.1
only_row (row.Resource name available) h = nothing_at (get nothing.resources name) h.0 (get-empty name_cmp name) h.1
only_row (row.Occurrence c priority deadline status) h = nothing_at (get nothing.occurrences c) (record { priority = priority; deadline = deadline }) (get-empty occurrence_cmp c) h.0
only_row (row.Operation r) h = nothing_at (get nothing.operations r.op) h.op (get-empty operation_cmp r.op) h.is_in_plan
only_row (row.Dependency p s) h = absurd (true≢false (sym h ∙ set.contains-empty pair_cmp (p, s)))
only_row (row.Need o r mode keep) h = nothing_at (get nothing.operations o) h.0 (get-empty operation_cmp o) h.1
only_row (row.Quantity r quantity) h = nothing_at (get nothing.resources r) h.0 (get-empty name_cmp r) h.1
only_row (row.Amount o r amount) h = nothing_at (get nothing.operations o) h.0 (get-empty operation_cmp o) h.1

first_row : (r : PlanRow) → WithRow (row.Meta 2 false 0) NoRow r → IsRow no_plan r
first_row r (inl own) = subst (IsRow no_plan) (sym own) (refl, refl, refl)
first_row r (inr other) = absurd other.0

-- the row of a desk at which nothing is loaded
pub held_at_first : HoldRows (IsRow no_plan) (with_row (row.Meta 2 false 0) none_held)
held_at_first = rows_alike (λ r. (first_row r, only_row r)) (row_put NoRow (row.Meta 2 false 0) none_held nothing_held)
