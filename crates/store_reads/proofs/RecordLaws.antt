-- What a row of a table is, column by column.
use Rattle.std.proofs.Common.{◌≡◌, ℕ, ◌+◌, ◌<◌, Bool, [], ◌∷◌, length, map, drop, arith, sym, ap, ◌∙◌}
use Rattle.std.specs.List.{range_with_len}
use Rattle.sqlite.specs.Order.{Row, column}
use Rattle.plan_basics.specs.Intervals.{OpenInterval, IsInterval}
use Rattle.plan_basics.specs.Keys.{Name}
use Rattle.plan_basics.specs.Names.{IsName, IsResourceName}
use Rattle.plan_basics.specs.declared.Attr.{Attr}
use Rattle.plan_basics.specs.declared.keys.OccKey.{OccKey}
use Rattle.plan_basics.specs.declared.keys.OpKey.{OpKey}
use Rattle.special_resources.specs.declared.Mode.{Mode}
use Rattle.status_rules.specs.declared.OccStatus.{OccStatus}
use Rattle.plan_records.specs.declared.OperationRow.{OperationRow}
use Rattle.plan_records.specs.declared.PlanRow.{PlanRow}
use Rattle.plan_records.specs.declared.PlanRow.TheVariants as row
use Rattle.store_schema.specs.StoredPlans.{meta_values, workstation_row, interval_row, resource_row, occurrence_row, operation_row, dependency_row, need_row, quantity_row, amount_row}
use Rattle.store_schema.specs.Columns.{meta_columns, workstation_columns, interval_columns, resource_columns, occurrence_columns, operation_columns, dependency_columns, need_columns, quantity_columns, amount_columns}
use Rattle.store_schema.proofs.Keys.{behind}
use Rattle.store_schema.proofs.Reading.{shown_behind, shown_whole}
use Rattle.store_reads.specs.Rows.{IsStoredAs, IsInRange, IsKeyInRange, IsOperationInRange}
use Rattle.store_reads.specs.declared.decoding.Table.TheVariants as table

-- ---- a row and what stands behind its rowid

-- a column, by what stands behind the rowid
pub at : (s v : Row) (i : ℕ) → drop 1 s ≡ v → column s (i + 1) ≡ column v i
at [] v i is = ap (λ l. column l i) is
at (x ∷ s) v i is = behind x s i ∙ ap (λ l. column l i) is

-- the rowid is one more
pub wide : (s v : Row) → 0 < length v → drop 1 s ≡ v → length s ≡ length v + 1
wide [] v some is = absurd (let none : 0 ≡ length v = ap length is in omega (arith, none, some))
wide (x ∷ s) v some is = let same : length s ≡ length v = ap length is in omega (arith, same)

-- what stands behind the rowid, by the columns
pub whole : (n : ℕ) (s : Row) → length s ≡ n + 1 → drop 1 s ≡ map (column s) (range_with_len 1 n)
whole n [] long = absurd (omega (arith, long))
whole n (x ∷ s) long =
    let same : length s ≡ n = omega (arith, long) in
    sym (shown_whole s) ∙ sym (shown_behind x s 0 (length s)) ∙ ap (λ k. map (column (x ∷ s)) (range_with_len 1 k)) same

-- ---- what the rows of a plan in one table are

pub no_meta : (s : Row) → ((version : ℕ) (loaded : Bool) (clock : ℕ) → IsInRange (row.Meta version loaded clock) → drop 1 s ≡ meta_values (meta_columns version loaded clock) → ⊥) → (r : PlanRow) → ¬ IsStoredAs table.Meta s r
no_meta s none (row.Meta version loaded clock) h = none version loaded clock h.1 h.2
no_meta s none _ h = absurd (let e = h.0 in cc)

pub no_workstation : (s : Row) → ((name : Name) (a : Attr) → IsName 4 name → drop 1 s ≡ workstation_row (workstation_columns name a) → ⊥) → (r : PlanRow) → ¬ IsStoredAs table.Workstation s r
no_workstation s none (row.Workstation name a) h = none name a h.1 h.2
no_workstation s none _ h = absurd (let e = h.0 in cc)

pub no_interval : (s : Row) → ((w : Name) (i : OpenInterval) → IsName 4 w → IsInterval i → drop 1 s ≡ interval_row (interval_columns w i) → ⊥) → (r : PlanRow) → ¬ IsStoredAs table.Interval s r
no_interval s none (row.Interval w i) h = none w i h.1.0 h.1.1 h.2
no_interval s none _ h = absurd (let e = h.0 in cc)

pub no_resource : (s : Row) → ((name : Name) (available : Bool) → IsResourceName name → drop 1 s ≡ resource_row (resource_columns name available) → ⊥) → (r : PlanRow) → ¬ IsStoredAs table.Resource s r
no_resource s none (row.Resource name available) h = none name available h.1 h.2
no_resource s none _ h = absurd (let e = h.0 in cc)

pub no_occurrence : (s : Row) → ((c : OccKey) (priority deadline : ℕ) (status : OccStatus) → IsInRange (row.Occurrence c priority deadline status) → drop 1 s ≡ occurrence_row (occurrence_columns c priority deadline status) → ⊥) → (r : PlanRow) → ¬ IsStoredAs table.Occurrence s r
no_occurrence s none (row.Occurrence c priority deadline status) h = none c priority deadline status h.1 h.2
no_occurrence s none _ h = absurd (let e = h.0 in cc)

pub no_operation : (s : Row) → ((o : OperationRow) → IsOperationInRange o → drop 1 s ≡ operation_row (operation_columns o) → ⊥) → (r : PlanRow) → ¬ IsStoredAs table.Operation s r
no_operation s none (row.Operation o) h = none o h.1 h.2
no_operation s none _ h = absurd (let e = h.0 in cc)

pub no_dependency : (s : Row) → ((p q : OpKey) → IsKeyInRange p → IsKeyInRange q → drop 1 s ≡ dependency_row (dependency_columns p q) → ⊥) → (r : PlanRow) → ¬ IsStoredAs table.Dependency s r
no_dependency s none (row.Dependency p q) h = none p q h.1.0 h.1.1 h.2
no_dependency s none _ h = absurd (let e = h.0 in cc)

pub no_need : (s : Row) → ((o : OpKey) (r : Name) (mode : Mode) (keep : Bool) → IsKeyInRange o → IsResourceName r → drop 1 s ≡ need_row (need_columns o r mode keep) → ⊥) → (r : PlanRow) → ¬ IsStoredAs table.Need s r
no_need s none (row.Need o r mode keep) h = none o r mode keep h.1.0 h.1.1 h.2
no_need s none _ h = absurd (let e = h.0 in cc)

pub no_quantity : (s : Row) → ((r : Name) (quantity : ℕ) → IsInRange (row.Quantity r quantity) → drop 1 s ≡ quantity_row (quantity_columns r quantity) → ⊥) → (r : PlanRow) → ¬ IsStoredAs table.Quantity s r
no_quantity s none (row.Quantity r quantity) h = none r quantity h.1 h.2
no_quantity s none _ h = absurd (let e = h.0 in cc)

pub no_amount : (s : Row) → ((o : OpKey) (r : Name) (amount : ℕ) → IsInRange (row.Amount o r amount) → drop 1 s ≡ amount_row (amount_columns o r amount) → ⊥) → (r : PlanRow) → ¬ IsStoredAs table.Amount s r
no_amount s none (row.Amount o r amount) h = none o r amount h.1 h.2
no_amount s none _ h = absurd (let e = h.0 in cc)
