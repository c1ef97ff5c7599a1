-- The rows of the tables for what a plan holds, in the order of what is kept.
use Rattle.std.specs.Prelude.{ℕ, ◌==◌, cond, List, [], map, Option, Some, None}
use Rattle.std.specs.List.{flat_map, zip}
use Rattle.std.specs.FinMap.{entries}
use Rattle.plan_basics.specs.Intervals.{OpenInterval}
use Rattle.plan_basics.specs.Keys.{Name}
use Rattle.plan_basics.specs.declared.limits.TheConstants.{MOST_QUANTITY}
use Rattle.plan_basics.specs.declared.keys.OccKey.{OccKey}
use Rattle.plan_basics.specs.declared.keys.OpKey.{OpKey}
use Rattle.plan_model.specs.Contents.{Operation}
use Rattle.plan_model.specs.declared.Occurrence.{Occurrence}
use Rattle.plan_model.specs.declared.Stock.{Stock}
use Rattle.plan_records.specs.declared.OperationRow.{OperationRow}
use Rattle.plan_records.specs.declared.PlanRow.{PlanRow}
use Rattle.plan_records.specs.declared.PlanRow.TheVariants as row
use Rattle.plan_rows.specs.Sources.{Known, known_of}
use Rattle.plan_rows.specs.declared.row_sources.RowSource.{RowSource}
use Rattle.special_resources.specs.Needs.{need_of}
use Rattle.special_resources.specs.declared.Mode.{Mode}
use Rattle.special_resources.specs.declared.Mode.TheVariants.{Exclusive, Shared}
use Rattle.special_resources.specs.declared.Need.{Need}
use Rattle.status_rules.specs.Table.{occurrence_by}
use Rattle.status_rules.specs.declared.Counts.{Counts}
use Rattle.workstations.specs.Timetables.{NamedWorkstation}
use Rattle.workstations.specs.Workstations.{Workstation}

-- a workstation, and how it reports
abbrev pub workstation_row : NamedWorkstation → PlanRow
workstation_row w = row.Workstation w.0 w.1.attribute

-- an interval of a workstation, under its workstation's name and its first minute
abbrev pub interval_row : (Name × ℕ) × OpenInterval → PlanRow
interval_row x = row.Interval x.0.0 x.1

-- a special resource, and whether it is available
abbrev pub resource_row : Name × Stock → PlanRow
resource_row x = row.Resource x.0 x.1.available

-- how much there is of a special resource, where it isn't the greatest quantity, which isn't written
abbrev pub quantity_written : Name × Stock → Option (Name × ℕ)
quantity_written x = cond (x.1.quantity == MOST_QUANTITY) None (Some (x.0, x.1.quantity))

-- its row
abbrev pub quantity_row : Name × ℕ → PlanRow
quantity_row x = row.Quantity x.0 x.1

-- an occurrence, by its terms and the numbers of its operations
abbrev pub keyed_occurrence : (OccKey × Occurrence) × Counts → OccKey × PlanRow
keyed_occurrence x = (x.0.0, row.Occurrence x.0.0 x.0.1.priority x.0.1.deadline (occurrence_by x.1))

-- an operation, by its own columns and what is known of it
abbrev pub operation_row_of : (OpKey × Operation) × Known → OperationRow
operation_row_of x = record {
  op = x.0.0;
  ws = x.0.1.workstation;
  duration = x.0.1.duration;
  r1 = x.0.1.r1;
  r2 = x.0.1.r2;
  not_before = x.0.1.not_before;
  deadline = x.0.1.deadline;
  mark = x.0.1.mark;
  held = x.0.1.held;
  nop = x.0.1.nop;
  status = x.1.1.0;
  latest = x.1.1.1;
  waiting = x.1.0.waiting;
}

-- its row, under its key
abbrev pub keyed_operation : (OpKey × Operation) × Known → OpKey × PlanRow
keyed_operation x = (x.0.0, row.Operation (operation_row_of x))

-- a pair of a predecessor and a successor
abbrev pub dependency_row : OpKey × OpKey → PlanRow
dependency_row x = row.Dependency x.0 x.1

-- a need of an operation, by its resource, its mode, and whether an error keeps it
abbrev pub need_row : OpKey × Need → PlanRow
need_row x = row.Need x.0 x.1.name x.1.mode x.1.keep

-- how much a need is of, where it is shared and that isn't 1, which isn't written
abbrev pub amount_by : Mode → OpKey × Need → Option PlanRow
amount_by Exclusive x = None
amount_by Shared x = cond (x.1.amount == 1) None (Some (row.Amount x.0 x.1.name x.1.amount))

abbrev pub amount_row : OpKey × Need → Option PlanRow
amount_row x = amount_by x.1.mode x

-- all occurrences of a source, each under its key
abbrev pub keyed_occurrences : RowSource → List (OccKey × PlanRow)
keyed_occurrences s = map keyed_occurrence (zip (entries s.contents.now.occurrences) s.tallies.now)

-- all operations, each under its key
abbrev pub keyed_operations : RowSource → List (OpKey × PlanRow)
keyed_operations s = map keyed_operation (zip (entries s.contents.now.operations) (known_of s))

-- those of a source, if there is one
abbrev pub if_any : {K : Type 0} → (RowSource → List (K × PlanRow)) → Option RowSource → List (K × PlanRow)
if_any rows None = []
if_any rows (Some s) = rows s

-- the rows without their keys
abbrev pub rows_of : {K : Type 0} → List (K × PlanRow) → List PlanRow
rows_of xs = map (λ x. x.1) xs

-- what is kept within one, each under both keys
abbrev pub under_both : {K V L X : Type 0} → (V → List (L × X)) → K × V → List ((K × L) × X)
under_both within z = map (λ x. ((z.0, x.0), x.1)) (within z.1)

-- the intervals of a workstation, by first minute
abbrev pub intervals_within : Workstation → List (ℕ × OpenInterval)
intervals_within w = entries w.intervals

-- the intervals of all workstations
abbrev pub all_intervals : List NamedWorkstation → List ((Name × ℕ) × OpenInterval)
all_intervals = flat_map (under_both intervals_within)

-- the needs of an operation, by the names of the resources
abbrev pub needs_within : Operation → List (Name × Need)
needs_within o = map (λ x. (x.0, need_of x)) (entries o.needs)

-- the needs of all operations
abbrev pub all_needs : List (OpKey × Operation) → List ((OpKey × Name) × Need)
all_needs = flat_map (under_both needs_within)

-- a need with its operation's key
abbrev pub with_operation : (OpKey × Name) × Need → OpKey × Need
with_operation y = (y.0.0, y.1)

-- the needs of an operation, by the names of the resources
abbrev pub needs_listed : OpKey × Operation → List (OpKey × Need)
needs_listed z = map with_operation (under_both needs_within z)
