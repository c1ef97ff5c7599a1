-- What taking a row out by its key makes of all tables.
use Rattle.std.proofs.Common.{◌≡◌, ◌≢◌, inl, inr, refl, pos, [], ◌∷◌}
use Rattle.sqlite.specs.declared.types.Value.TheVariants.{Int, Text}
use Rattle.tracker_receipts.specs.plan_drafts.specs.declared.RowKey.{RowKey}
use Rattle.tracker_receipts.specs.plan_drafts.specs.declared.RowKey.TheVariants as key
use Rattle.tracker_receipts.specs.plan_laws.specs.Tables.{MayGo}
use Rattle.tracker_receipts.specs.plan_records.specs.Rows.{key_of}
use Rattle.tracker_receipts.specs.plan_records.specs.declared.PlanRow.{PlanRow}
use Rattle.store_schema.specs.StoredPlans.{Held, meta_row, workstation_row, interval_row, resource_row, occurrence_row, operation_row, dependency_row, need_row, quantity_row, amount_row}
use Rattle.store_schema.specs.WrittenTables.{HoldRows, without_row}
use Rattle.store_schema.proofs.EachTable.{amount_keys, amount_table, dependency_keys, dependency_table, interval_keys, interval_table, meta_table, need_keys, need_table, occurrence_keys, occurrence_table, operation_keys, operation_table, quantity_table, resource_table, workstation_table}
use Rattle.store_schema.proofs.OneTable.{IsLeft, holds_left}
use Rattle.store_schema.proofs.RowPut.{each_of, of_each}

-- those that were there of other keys
abbrev pub WithoutKey : RowKey → (PlanRow → Type 0) → PlanRow → Type 0
WithoutKey k IsIn s = IsIn s × (key_of s ≢ k)

-- ---- what each table is left with

module _ (held : Held) where
  metas_left : (k : RowKey) → MayGo k → IsLeft meta_table 1 meta_row k held.metas (without_row k held).metas
  metas_left key.Meta may = absurd may
  metas_left _ may = inr (refl, refl)

  workstations_left : (k : RowKey) → MayGo k → IsLeft workstation_table 1 workstation_row k held.workstations (without_row k held).workstations
  workstations_left (key.Workstation w) may = absurd may
  workstations_left _ may = inr (refl, refl)

  intervals_left : (k : RowKey) → MayGo k → IsLeft interval_table 2 interval_row k held.intervals (without_row k held).intervals
  intervals_left (key.Interval w m) may = inl (Text w ∷ Int (pos m) ∷ [], refl, (tt, (tt, tt)), λ a. interval_keys a.0 w a.1.from m)
  intervals_left _ may = inr (refl, refl)

  resources_left : (k : RowKey) → MayGo k → IsLeft resource_table 1 resource_row k held.resources (without_row k held).resources
  resources_left (key.Resource r) may = absurd may
  resources_left _ may = inr (refl, refl)

  occurrences_left : (k : RowKey) → MayGo k → IsLeft occurrence_table 2 occurrence_row k held.occurrences (without_row k held).occurrences
  occurrences_left (key.Occurrence c) may = inl (Text c.app ∷ Int (pos c.arrival) ∷ [], refl, (tt, (tt, tt)), λ a. occurrence_keys a.0 c)
  occurrences_left _ may = inr (refl, refl)

  operations_left : (k : RowKey) → MayGo k → IsLeft operation_table 3 operation_row k held.operations (without_row k held).operations
  operations_left (key.Operation o) may = inl (Text o.occurrence.app ∷ Int (pos o.occurrence.arrival) ∷ Int (pos o.number) ∷ [], refl, (tt, (tt, (tt, tt))), λ a. operation_keys a.op o)
  operations_left _ may = inr (refl, refl)

  dependencies_left : (k : RowKey) → MayGo k → IsLeft dependency_table 6 dependency_row k held.dependencies (without_row k held).dependencies
  dependencies_left (key.Dependency p s) may = inl (Text p.occurrence.app ∷ Int (pos p.occurrence.arrival) ∷ Int (pos p.number) ∷ Text s.occurrence.app ∷ Int (pos s.occurrence.arrival) ∷ Int (pos s.number) ∷ [], refl, (tt, (tt, (tt, (tt, (tt, (tt, tt)))))), λ a. dependency_keys a.0 a.1 p s)
  dependencies_left _ may = inr (refl, refl)

  needs_left : (k : RowKey) → MayGo k → IsLeft need_table 4 need_row k held.needs (without_row k held).needs
  needs_left (key.Need o r) may = inl (Text o.occurrence.app ∷ Int (pos o.occurrence.arrival) ∷ Int (pos o.number) ∷ Text r ∷ [], refl, (tt, (tt, (tt, (tt, tt)))), λ a. need_keys a.0 o a.1 r)
  needs_left _ may = inr (refl, refl)

  quantities_left : (k : RowKey) → MayGo k → IsLeft quantity_table 1 quantity_row k held.quantities (without_row k held).quantities
  quantities_left (key.Quantity r) may = absurd may
  quantities_left _ may = inr (refl, refl)

  amounts_left : (k : RowKey) → MayGo k → IsLeft amount_table 4 amount_row k held.amounts (without_row k held).amounts
  amounts_left (key.Amount o r) may = inl (Text o.occurrence.app ∷ Int (pos o.occurrence.arrival) ∷ Int (pos o.number) ∷ Text r ∷ [], refl, (tt, (tt, (tt, (tt, tt)))), λ a. amount_keys a.0 o a.1 r)
  amounts_left _ may = inr (refl, refl)

-- ---- all of them

-- a row that may go is out, and those that were there of other keys are left
pub key_taken : (IsIn : PlanRow → Type 0) (k : RowKey) (held : Held) → MayGo k → HoldRows IsIn held → HoldRows (WithoutKey k IsIn) (without_row k held)
key_taken IsIn k held may h =
    let each = each_of h in
    let rest = without_row k held in
    of_each (record {
      metas = holds_left meta_table 1 meta_row (λ x. (tt, tt)) IsIn k held.metas rest.metas (metas_left held k may) each.metas;
      workstations = holds_left workstation_table 1 workstation_row (λ x. (tt, tt)) IsIn k held.workstations rest.workstations (workstations_left held k may) each.workstations;
      intervals = holds_left interval_table 2 interval_row (λ x. (tt, (tt, tt))) IsIn k held.intervals rest.intervals (intervals_left held k may) each.intervals;
      resources = holds_left resource_table 1 resource_row (λ x. (tt, tt)) IsIn k held.resources rest.resources (resources_left held k may) each.resources;
      occurrences = holds_left occurrence_table 2 occurrence_row (λ x. (tt, (tt, tt))) IsIn k held.occurrences rest.occurrences (occurrences_left held k may) each.occurrences;
      operations = holds_left operation_table 3 operation_row (λ x. (tt, (tt, (tt, tt)))) IsIn k held.operations rest.operations (operations_left held k may) each.operations;
      dependencies = holds_left dependency_table 6 dependency_row (λ x. (tt, (tt, (tt, (tt, (tt, (tt, tt))))))) IsIn k held.dependencies rest.dependencies (dependencies_left held k may) each.dependencies;
      needs = holds_left need_table 4 need_row (λ x. (tt, (tt, (tt, (tt, tt))))) IsIn k held.needs rest.needs (needs_left held k may) each.needs;
      quantities = holds_left quantity_table 1 quantity_row (λ x. (tt, tt)) IsIn k held.quantities rest.quantities (quantities_left held k may) each.quantities;
      amounts = holds_left amount_table 4 amount_row (λ x. (tt, (tt, (tt, (tt, tt))))) IsIn k held.amounts rest.amounts (amounts_left held k may) each.amounts;
    })

-- the receipts stay
pub receipts_beside_key : (k : RowKey) (held : Held) → (without_row k held).receipts ≡ held.receipts
receipts_beside_key (key.Interval w m) held = refl
receipts_beside_key _ held = refl
