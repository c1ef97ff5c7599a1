-- Which rows of a plan the tables hold, and what writing rows makes of them.
use Rattle.std.specs.Prelude.{◌≡◌, ◌↔◌, ℕ, pos, Bool, List, [], ◌∷◌}
use Rattle.sqlite_rules.specs.Lists.{Has}
use Rattle.plan_basics.specs.Intervals.{OpenInterval}
use Rattle.plan_basics.specs.Keys.{Name}
use Rattle.plan_basics.specs.declared.Attr.{Attr}
use Rattle.plan_basics.specs.declared.keys.OccKey.{OccKey}
use Rattle.plan_basics.specs.declared.keys.OpKey.{OpKey}
use Rattle.tracker_receipts.specs.special_resources.specs.declared.Mode.{Mode}
use Rattle.status_rules.specs.declared.OccStatus.{OccStatus}
use Rattle.tracker_receipts.specs.plan_drafts.specs.declared.RowKey.{RowKey}
use Rattle.tracker_receipts.specs.plan_drafts.specs.declared.RowKey.TheVariants as key
use Rattle.tracker_receipts.specs.plan_records.specs.declared.OperationRow.{OperationRow}
use Rattle.tracker_receipts.specs.plan_records.specs.declared.PlanRow.{PlanRow}
use Rattle.tracker_receipts.specs.plan_records.specs.declared.PlanRow.TheVariants as row
use Rattle.store_schema.specs.StoredPlans.{Held, StoredMeta, StoredWorkstation, StoredInterval, StoredResource, StoredOccurrence, StoredOperation, StoredDependency, StoredNeed, StoredQuantity, StoredAmount, with_meta, with_workstation, with_interval, with_resource, with_occurrence, with_operation, with_dependency, with_need, with_quantity, with_amount, without_interval, without_occurrence, without_operation, without_dependency, without_need, without_amount}
use Rattle.store_schema.specs.Columns.{meta_columns, workstation_columns, interval_columns, resource_columns, occurrence_columns, operation_columns, dependency_columns, need_columns, quantity_columns, amount_columns}

-- the tables of a plan hold these rows and no others; the receipts are a table of their own
pub record HoldRows (IsIn : PlanRow → Type 0) (held : Held) : Type 0 where
  pub metas : (x : StoredMeta) → Has held.metas x ↔ ((version : ℕ) × (loaded : Bool) × (clock : ℕ) × IsIn (row.Meta version loaded clock) × (x ≡ meta_columns version loaded clock))
  pub workstations : (x : StoredWorkstation) → Has held.workstations x ↔ ((name : Name) × (a : Attr) × IsIn (row.Workstation name a) × (x ≡ workstation_columns name a))
  pub intervals : (x : StoredInterval) → Has held.intervals x ↔ ((w : Name) × (i : OpenInterval) × IsIn (row.Interval w i) × (x ≡ interval_columns w i))
  pub resources : (x : StoredResource) → Has held.resources x ↔ ((name : Name) × (available : Bool) × IsIn (row.Resource name available) × (x ≡ resource_columns name available))
  pub occurrences : (x : StoredOccurrence) → Has held.occurrences x ↔ ((c : OccKey) × (priority : ℕ) × (deadline : ℕ) × (status : OccStatus) × IsIn (row.Occurrence c priority deadline status) × (x ≡ occurrence_columns c priority deadline status))
  pub operations : (x : StoredOperation) → Has held.operations x ↔ ((r : OperationRow) × IsIn (row.Operation r) × (x ≡ operation_columns r))
  pub dependencies : (x : StoredDependency) → Has held.dependencies x ↔ ((p : OpKey) × (s : OpKey) × IsIn (row.Dependency p s) × (x ≡ dependency_columns p s))
  pub needs : (x : StoredNeed) → Has held.needs x ↔ ((o : OpKey) × (r : Name) × (mode : Mode) × (keep : Bool) × IsIn (row.Need o r mode keep) × (x ≡ need_columns o r mode keep))
  pub quantities : (x : StoredQuantity) → Has held.quantities x ↔ ((r : Name) × (quantity : ℕ) × IsIn (row.Quantity r quantity) × (x ≡ quantity_columns r quantity))
  pub amounts : (x : StoredAmount) → Has held.amounts x ↔ ((o : OpKey) × (r : Name) × (amount : ℕ) × IsIn (row.Amount o r amount) × (x ≡ amount_columns o r amount))

-- the tables with this row, in place of the one that has its key
abbrev pub with_row : PlanRow → Held → Held
with_row (row.Meta version loaded clock) = with_meta (meta_columns version loaded clock)
with_row (row.Workstation name a) = with_workstation (workstation_columns name a)
with_row (row.Interval w i) = with_interval (interval_columns w i)
with_row (row.Resource name available) = with_resource (resource_columns name available)
with_row (row.Occurrence c priority deadline status) = with_occurrence (occurrence_columns c priority deadline status)
with_row (row.Operation r) = with_operation (operation_columns r)
with_row (row.Dependency p s) = with_dependency (dependency_columns p s)
with_row (row.Need o r mode keep) = with_need (need_columns o r mode keep)
with_row (row.Quantity r quantity) = with_quantity (quantity_columns r quantity)
with_row (row.Amount o r amount) = with_amount (amount_columns o r amount)

-- the tables without the row of this key; a row that never goes stays
abbrev pub without_row : RowKey → Held → Held
without_row (key.Interval w from) = without_interval w (pos from)
without_row (key.Occurrence c) = without_occurrence c.app (pos c.arrival)
without_row (key.Operation o) = without_operation o.occurrence.app (pos o.occurrence.arrival) (pos o.number)
without_row (key.Dependency p s) = without_dependency p.occurrence.app (pos p.occurrence.arrival) (pos p.number) s.occurrence.app (pos s.occurrence.arrival) (pos s.number)
without_row (key.Need o r) = without_need o.occurrence.app (pos o.occurrence.arrival) (pos o.number) r
without_row (key.Amount o r) = without_amount o.occurrence.app (pos o.occurrence.arrival) (pos o.number) r
without_row _ = λ held. held

-- with all of these rows, the first first
abbrev pub with_rows : List PlanRow → Held → Held
with_rows [] held = held
with_rows (r ∷ rows) held = with_rows rows (with_row r held)

-- without the rows of any of these keys
abbrev pub without_rows : List RowKey → Held → Held
without_rows [] held = held
without_rows (k ∷ keys) held = without_rows keys (without_row k held)

-- what changed rows and gone keys make of the tables
abbrev pub written : List PlanRow → List RowKey → Held → Held
written rows gone held = without_rows gone (with_rows rows held)
