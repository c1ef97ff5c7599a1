-- All tables: what changes in them, and all their rows.
use Rattle.std.proofs.Common.{◌≡◌, ◌↔◌, sym, ap, ◌∙◌, arith, ℕ, ◌<◌, List, [], None, Option, Some, option_map}
use Rattle.std.proofs.lemmas.Bool.{true≢false}
use Rattle.std.specs.FinMap.{get, get-empty}
use Rattle.std.specs.FinSet as set
use Rattle.plan_basics.proofs.Members.{contains_none}
use Rattle.plan_basics.specs.Keys.{Name, name_cmp, occurrence_cmp, operation_cmp}
use Rattle.plan_records.specs.plan_drafts.specs.declared.RowKey.{RowKey}
use Rattle.derived_figures.specs.plan_laws.proofs.Every.{nothing_at}
use Rattle.derived_figures.specs.plan_laws.proofs.RowChanges.{each_once}
use Rattle.plan_model.specs.Contents.{nothing, pair_cmp}
use Rattle.plan_model.specs.Plan.{Plan}
use Rattle.plan_records.specs.Rows.{AreChanges, AreRows, IsRow, key_of, row_cmp, table_of}
use Rattle.plan_records.specs.declared.PlanRow.{PlanRow}
use Rattle.plan_records.specs.declared.PlanRow.TheVariants as row
use Rattle.plan_rows.proofs.NoRows.{none_ascend}
use Rattle.plan_rows.specs.Sources.{IsSourceIfAny, plan_if_any}
use Rattle.plan_rows.specs.Tables.{IsRowBelow}
use Rattle.plan_rows.specs.declared.row_sources.RowSource.{RowSource}
use Rattle.row_differences.proofs.Joined.{described}
use Rattle.row_differences.specs.Changes.{AreRowChanges}
use Rattle.workstations.specs.Workstations.{IsWorkstation, Workstation}

-- each table has a number below 10
below_ten : (r : PlanRow) → table_of (key_of r) < 10
below_ten (row.Meta version loaded clock) = omega arith
below_ten (row.Workstation name a) = omega arith
below_ten (row.Interval w i) = omega arith
below_ten (row.Resource name available) = omega arith
below_ten (row.Occurrence c priority deadline status) = omega arith
below_ten (row.Operation r) = omega arith
below_ten (row.Dependency p s) = omega arith
below_ten (row.Need o r mode keep) = omega arith
below_ten (row.Quantity r quantity) = omega arith
below_ten (row.Amount o r amount) = omega arith

in_some_table : (P : Plan) (r : PlanRow) → IsRowBelow 10 P r ↔ IsRow P r
in_some_table P r = (λ h. h.0, λ is. (is, below_ten r))

-- what changes in the tables below 10 is what changes
pub in_all_tables : (P Q : Plan) (rows : List PlanRow) (gone : List RowKey) → AreRowChanges row_cmp key_of (IsRowBelow 10 P) (IsRowBelow 10 Q) rows gone → AreChanges P Q rows gone
in_all_tables P Q rows gone h =
    let d = described (IsRow P) (IsRow Q) (in_some_table P) (in_some_table Q) rows gone h in
    record { rows_ascend = d.rows_ascend; has_rows = d.has_rows; gone_ascend = d.gone_ascend; has_gone = d.has_gone }

-- below the first table there is nothing to change
pub in_no_table : (P Q : Plan) → AreRowChanges row_cmp key_of (IsRowBelow 0 P) (IsRowBelow 0 Q) [] []
in_no_table P Q = record {
  rows_ascend = none_ascend row_cmp;
  has_rows = λ r. (λ has. absurd (contains_none r has), λ h. let lt = h.0.1 in absurd (omega (arith, lt)));
  gone_ascend = none_ascend row_cmp;
  has_gone = λ k. (λ has. absurd (contains_none k has), λ h. let lt = h.0.1.1 in absurd (omega (arith, lt)));
}

-- no row of a loaded plan is one of a plan before a load
new_row : (clock now : ℕ) (s : RowSource) (r : PlanRow) → IsRow (plan_if_any clock None) r → IsRow (plan_if_any now (Some s)) r → ⊥
new_row clock now s (row.Meta version loaded at) h is = true≢false (sym is.1 ∙ h.1)
new_row clock now s (row.Workstation name a) h is = nothing_at (option_map (λ ws. ws.attribute) (get nothing.workstations name)) a (ap (option_map (λ ws. ws.attribute)) (get-empty name_cmp name)) h
new_row clock now s (row.Interval w i) h is = nothing_at (get nothing.workstations w) h.0 (get-empty name_cmp w) h.1
new_row clock now s (row.Resource name available) h is = nothing_at (get nothing.resources name) h.0 (get-empty name_cmp name) h.1
new_row clock now s (row.Occurrence c priority deadline status) h is = nothing_at (get nothing.occurrences c) (record { priority = priority; deadline = deadline }) (get-empty occurrence_cmp c) h.0
new_row clock now s (row.Operation r) h is = nothing_at (get nothing.operations r.op) h.op (get-empty operation_cmp r.op) h.is_in_plan
new_row clock now s (row.Dependency p q) h is = true≢false (sym h ∙ set.contains-empty pair_cmp (p, q))
new_row clock now s (row.Need o r mode keep) h is = nothing_at (get nothing.operations o) h.0 (get-empty operation_cmp o) h.1
new_row clock now s (row.Quantity r quantity) h is = nothing_at (get nothing.resources r) h.0 (get-empty name_cmp r) h.1
new_row clock now s (row.Amount o r amount) h is = nothing_at (get nothing.operations o) h.0 (get-empty operation_cmp o) h.1

-- what changes where a plan is loaded is all of its rows
pub all_new : (clock now : ℕ) (s : RowSource) (rows : List PlanRow) (gone : List RowKey) → AreChanges (plan_if_any clock None) (plan_if_any now (Some s)) rows gone → AreRows (plan_if_any now (Some s)) rows
all_new clock now s rows gone h = record {
  has_all = λ r. (λ has. ((h.has_rows r).0 has).0, λ is. (h.has_rows r).1 (is, λ was. new_row clock now s r was is));
  once = each_once rows h.rows_ascend;
}

-- the workstations of a source are legal
pub legal_workstations : (clock : ℕ) (source : Option RowSource) → IsSourceIfAny source → (w : Name) (ws : Workstation) → get (plan_if_any clock source).contents.workstations w ≡ Some ws → IsWorkstation ws
legal_workstations clock None is w ws at = nothing_at (get nothing.workstations w) ws (get-empty name_cmp w) at
legal_workstations clock (Some s) is w ws at = (is.sound.valid.workstations w ws at).1
