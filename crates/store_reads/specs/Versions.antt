-- The rows of a plan in the tables of either version: they differ in the version alone.
use Rattle.std.specs.Prelude.{ℕ, Bool, true, false, List, map, cond, eqb, codes, is_some, IsTrue}
use Rattle.sqlite.specs.Schema.{Schema}
use Rattle.sqlite_schema.specs.Names.{table_named}
use Rattle.plan_records.specs.plan_model.specs.Plan.{Plan}
use Rattle.plan_records.specs.Rows.{IsFirstRow, IsRow}
use Rattle.plan_records.specs.declared.PlanRow.{PlanRow}
use Rattle.plan_records.specs.declared.PlanRow.TheVariants as row
use Rattle.store_schema.specs.declared.texts.Version.{Version}
use Rattle.store_schema.specs.declared.texts.Version.TheVariants.{First, Second}

-- a row of a plan in the tables of this version
abbrev pub IsRowBy : Version → Plan → PlanRow → Type 0
IsRowBy First = IsFirstRow
IsRowBy Second = IsRow

-- the second version alone has the table `quantity`
abbrev pub has_quantity : Version → Bool
has_quantity First = false
has_quantity Second = true

-- a database has a table `quantity`, whatever others there are
abbrev pub HasTableQuantity : Schema → Type 0
HasTableQuantity schema = IsTrue (is_some (table_named schema (codes "quantity")))

-- the version that the other tables name
abbrev pub other_version : ℕ → ℕ
other_version version = cond (eqb version 1) 2 (cond (eqb version 2) 1 version)

-- a row as the tables of the other version have it
abbrev pub in_other : PlanRow → PlanRow
in_other (row.Meta version loaded clock) = row.Meta (other_version version) loaded clock
in_other r = r

-- the rows of tables of this version, as those of the second have them
abbrev pub as_second : Version → List PlanRow → List PlanRow
as_second First rows = map in_other rows
as_second Second rows = rows
