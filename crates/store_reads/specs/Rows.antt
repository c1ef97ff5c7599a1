-- Which rows of a plan stand in which table, and what is stored of each.
use Rattle.std.specs.Prelude.{◌≡◌, ◌<◌, ◌^◌, List, ◌++◌, drop}
use Rattle.std.specs.List.{AllZip}
use Rattle.sqlite.specs.Order.{Row}
use Rattle.plan_basics.specs.Intervals.{IsInterval}
use Rattle.plan_basics.specs.Keys.{IsOccurrenceKey}
use Rattle.plan_basics.specs.Minutes.{IsMoment}
use Rattle.plan_basics.specs.Names.{IsName, IsResourceName}
use Rattle.plan_basics.specs.declared.keys.OpKey.{OpKey}
use Rattle.status_rules.specs.Texts.{HasLegalCode}
use Rattle.plan_records.specs.declared.OperationRow.{OperationRow}
use Rattle.plan_records.specs.declared.PlanRow.{PlanRow}
use Rattle.plan_records.specs.declared.PlanRow.TheVariants as row
use Rattle.store_schema.specs.StoredPlans.{meta_values, workstation_row, interval_row, resource_row, occurrence_row, operation_row, dependency_row, need_row, quantity_row, amount_row}
use Rattle.store_schema.specs.Columns.{meta_columns, workstation_columns, interval_columns, resource_columns, occurrence_columns, operation_columns, dependency_columns, need_columns, quantity_columns, amount_columns}
use Rattle.store_reads.specs.declared.decoding.Table.{Table}
use Rattle.store_reads.specs.declared.decoding.Table.TheVariants as table

-- the table that a row of a plan stands in
abbrev pub table_for : PlanRow → Table
table_for (row.Meta version loaded clock) = table.Meta
table_for (row.Workstation name a) = table.Workstation
table_for (row.Interval w i) = table.Interval
table_for (row.Resource name available) = table.Resource
table_for (row.Occurrence c priority deadline status) = table.Occurrence
table_for (row.Operation r) = table.Operation
table_for (row.Dependency p s) = table.Dependency
table_for (row.Need o r mode keep) = table.Need
table_for (row.Quantity r quantity) = table.Quantity
table_for (row.Amount o r amount) = table.Amount

-- its columns, in their order
abbrev pub columns_of : PlanRow → Row
columns_of (row.Meta version loaded clock) = meta_values (meta_columns version loaded clock)
columns_of (row.Workstation name a) = workstation_row (workstation_columns name a)
columns_of (row.Interval w i) = interval_row (interval_columns w i)
columns_of (row.Resource name available) = resource_row (resource_columns name available)
columns_of (row.Occurrence c priority deadline status) = occurrence_row (occurrence_columns c priority deadline status)
columns_of (row.Operation r) = operation_row (operation_columns r)
columns_of (row.Dependency p s) = dependency_row (dependency_columns p s)
columns_of (row.Need o r mode keep) = need_row (need_columns o r mode keep)
columns_of (row.Quantity r quantity) = quantity_row (quantity_columns r quantity)
columns_of (row.Amount o r amount) = amount_row (amount_columns o r amount)

-- an operation's key whose names and numbers are in the ranges of their types
abbrev pub IsKeyInRange : OpKey → Type 0
IsKeyInRange o = IsOccurrenceKey o.occurrence × (o.number < 2 ^ 8)

-- an operation's row whose names and numbers are in the ranges of their types
pub record IsOperationInRange (r : OperationRow) : Type 0 where
  pub op : IsKeyInRange r.op
  pub ws : IsName 4 r.ws
  pub duration : r.duration < 2 ^ 16
  pub r1 : r.r1 < 2 ^ 8
  pub r2 : r.r2 < 2 ^ 8
  pub not_before : IsMoment r.not_before
  pub deadline : IsMoment r.deadline
  pub mark : HasLegalCode r.mark
  pub waiting : r.waiting < 2 ^ 32

-- a row whose names and numbers are in the ranges of their types
abbrev pub IsInRange : PlanRow → Type 0
IsInRange (row.Meta version loaded clock) = (version < 2 ^ 32) × IsMoment clock
IsInRange (row.Workstation name a) = IsName 4 name
IsInRange (row.Interval w i) = IsName 4 w × IsInterval i
IsInRange (row.Resource name available) = IsResourceName name
IsInRange (row.Occurrence c priority deadline status) = IsOccurrenceKey c × (priority < 2 ^ 8) × IsMoment deadline
IsInRange (row.Operation r) = IsOperationInRange r
IsInRange (row.Dependency p s) = IsKeyInRange p × IsKeyInRange s
IsInRange (row.Need o r mode keep) = IsKeyInRange o × IsResourceName r
IsInRange (row.Quantity r quantity) = IsResourceName r × (quantity < 2 ^ 32)
IsInRange (row.Amount o r amount) = IsKeyInRange o × IsResourceName r × (amount < 2 ^ 32)

-- a row that is read of a table, its rowid first, is this row of a plan
abbrev pub IsStoredAs : Table → Row → PlanRow → Type 0
IsStoredAs t stored r = (table_for r ≡ t) × IsInRange r × (drop 1 stored ≡ columns_of r)

-- a row that is read of a table is no row of a plan
abbrev pub IsNoRow : Table → Row → Type 0
IsNoRow t stored = (r : PlanRow) → ¬ IsStoredAs t stored r

-- the rows after are those before, and then the rows of a plan that the rows read of a table are, one for each in order
abbrev pub AppendsRows : Table → List Row → List PlanRow → List PlanRow → Type 0
AppendsRows t stored before after = (read : List PlanRow) × (after ≡ before ++ read) × AllZip (IsStoredAs t) stored read
