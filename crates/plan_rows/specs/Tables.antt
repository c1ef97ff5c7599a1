-- The tables one after the other, and what changes in them.
use Rattle.std.specs.Prelude.{◌≡◌, ◌↔◌, ◌<◌, ℕ, List, map, Contains, Option, Result, OnOk}
use Rattle.plan_records.specs.plan_drafts.specs.declared.RowKey.{RowKey}
use Rattle.plan_model.specs.Plan.{Plan}
use Rattle.plan_records.specs.Rows.{IsRow, key_of, row_cmp, table_of}
use Rattle.plan_records.specs.declared.Changes.{Changes}
use Rattle.plan_records.specs.declared.PlanRow.{PlanRow}
use Rattle.plan_rows.specs.Sources.{plan_if_any}
use Rattle.plan_rows.specs.declared.row_sources.RowSource.{RowSource}
use Rattle.row_differences.specs.Changes.{AreRowChanges}

-- a row of the table of this number
abbrev pub IsRowOf : ℕ → Plan → PlanRow → Type 0
IsRowOf n P r = IsRow P r × (table_of (key_of r) ≡ n)

-- a row of one of the tables below this number
abbrev pub IsRowBelow : ℕ → Plan → PlanRow → Type 0
IsRowBelow n P r = IsRow P r × (table_of (key_of r) < n)

-- what changes in the tables below this number
abbrev pub AreChangesBelow : ℕ → Plan → Plan → Changes → Type 0
AreChangesBelow n P Q c = AreRowChanges row_cmp key_of (IsRowBelow n P) (IsRowBelow n Q) c.rows.items c.gone.items

-- if c is what changes in the tables below n from the plan of the one source to that of the other, at whatever clocks, then, where the result is Ok, d is what changes in those below m
abbrev pub AddsChanges : {E : Type 0} → ℕ → ℕ → Option RowSource → Option RowSource → Result (Unit {0}) E → Changes → Changes → Type 0
AddsChanges n m before after r c d = (clock now : ℕ) → AreChangesBelow n (plan_if_any clock before) (plan_if_any now after) c → OnOk r (AreChangesBelow m (plan_if_any clock before) (plan_if_any now after) d)

-- these are the rows of the table of this number, under these keys
pub record AreRowsOf {K : Type 0} (name : K → RowKey) (n : ℕ) (P : Plan) (keys : List K) (rows : List PlanRow) : Type 0 where
  pub keyed : map key_of rows ≡ map name keys
  pub all : (r : PlanRow) → Contains rows r ↔ IsRowOf n P r
