-- The rows of a plan that the tables of a database store beside those of receipts.
use Rattle.std.proofs.Common.{◌≡◌, ◌↔◌, refl, sym, subst, ◌∙◌, inl, inr, Contains, List, [], ◌∷◌, map, Option}
use Rattle.std.specs.List.{filter_map}
use Rattle.sqlite.specs.Effect.{Database, IsDatabase}
use Rattle.sqlite.specs.Order.{Row}
use Rattle.sqlite.specs.Tree.{Trees}
use Rattle.sqlite_rules.specs.Lists.{Has}
use Rattle.sqlite_rules.proofs.ListLemmas.{all_has, has_left}
use Rattle.plan_records.specs.declared.PlanRow.{PlanRow}
use Rattle.plan_records.specs.declared.PlanRow.TheVariants as row
use Rattle.store_schema.specs.Schema.{schema_of}
use Rattle.store_schema.specs.StoredPlans.{Held, HoldsIn, StoresIn}
use Rattle.store_schema.specs.declared.texts.Version.{Version}
use Rattle.store_schema.specs.declared.texts.Version.TheVariants.{First, Second}
use Rattle.store_schema.proofs.Metas.{meta_stored}
use Rattle.store_schema.specs.Columns.{quantity_columns, amount_columns}
use Rattle.store_schema.specs.Receipts.{stored_receipt}
use Rattle.store_schema.specs.WrittenTables.{HoldRows}
use Rattle.store_schema.proofs.EachTable.{meta_of, workstation_of, interval_of, resource_of, occurrence_of, operation_of, dependency_of, need_of, quantity_of, amount_of}
use Rattle.store_schema.proofs.RowPut.{HoldEach, each_of, of_each, rows_alike}
use Rattle.store_reads.specs.Rows.{table_for, IsInRange}
use Rattle.store_reads.specs.declared.decoding.Table.{Table}
use Rattle.store_reads.specs.declared.decoding.Table.TheVariants as table
use Rattle.store_reads.proofs.Decoded.{one_of_columns}
use Rattle.store_schema.specs.tracker_receipts.specs.Stored.{Columns}
use Rattle.store_reads.specs.Tables.{rows_of, tables_of, AreRead, AreReceiptsRead, HasOtherRow, IsIn, StoresRows, StoresEach}
use Rattle.store_reads.proofs.MetaShown.{meta_shown, meta_held}
use Rattle.store_reads.proofs.PlanTables.{meta_table, workstation_table, interval_table, resource_table, occurrence_table, operation_table, dependency_table, need_table, quantity_table, amount_table}
use Rattle.store_reads.proofs.ReceiptsStored.{receipt_of, receipts_held, receipts_listed}
use Rattle.store_reads.proofs.TablesIn.{all_in}
use Rattle.store_reads.proofs.TableHeld.{IsTableOf, StoresOf, held_of, none_picked, picked, stores_of}

-- ---- all tables were read

-- the values of the rows of a list, and of those of receipts
abbrev held_by : List PlanRow → List Columns → Held
held_by rows receipts = record {
  metas = filter_map meta_of rows;
  workstations = filter_map workstation_of rows;
  intervals = filter_map interval_of rows;
  resources = filter_map resource_of rows;
  occurrences = filter_map occurrence_of rows;
  operations = filter_map operation_of rows;
  dependencies = filter_map dependency_of rows;
  needs = filter_map need_of rows;
  quantities = filter_map quantity_of rows;
  amounts = filter_map amount_of rows;
  receipts = map stored_receipt receipts;
}

-- they are those of the rows that the list contains
rows_held : (rows : List PlanRow) (receipts : List Columns) → HoldRows (Contains rows) (held_by rows receipts)
rows_held rows receipts = of_each (record {
  metas = picked meta_of rows;
  workstations = picked workstation_of rows;
  intervals = picked interval_of rows;
  resources = picked resource_of rows;
  occurrences = picked occurrence_of rows;
  operations = picked operation_of rows;
  dependencies = picked dependency_of rows;
  needs = picked need_of rows;
  quantities = picked quantity_of rows;
  amounts = picked amount_of rows;
})

-- each version has the tables of the first
first_listed : (t : Table) → IsIn First t → Has (tables_of First) t
first_listed table.Meta is = inl refl
first_listed table.Workstation is = inr (inl refl)
first_listed table.Interval is = inr (inr (inl refl))
first_listed table.Resource is = inr (inr (inr (inl refl)))
first_listed table.Occurrence is = inr (inr (inr (inr (inl refl))))
first_listed table.Operation is = inr (inr (inr (inr (inr (inl refl)))))
first_listed table.Dependency is = inr (inr (inr (inr (inr (inr (inl refl))))))
first_listed table.Need is = inr (inr (inr (inr (inr (inr (inr (inl refl)))))))
first_listed table.Quantity is = absurd is
first_listed table.Amount is = absurd is

listed : (version : Version) (t : Table) → IsIn First t → Has (tables_of version) t
listed First t is = first_listed t is
listed Second t is = has_left (tables_of First) (table.Quantity ∷ table.Amount ∷ []) t (first_listed t is)

-- of the tables of the first version no row is of another table
first_alone : (t : Table) → Has (tables_of First) t → IsIn First t
first_alone t has = all_has (IsIn First) (tables_of First) t (all_in First) has

-- what a table that the second version alone has holds, where all tables are read
later_held : {X : Type 0} {t : Table} {of : PlanRow → Option X} {row : X → Row} → IsTableOf t of row → (IsIn First t → ⊥) → Has (tables_of Second) t → (version : Version) (trees : Trees) (rows : List PlanRow) → AreRead (tables_of version) trees rows → HoldsIn version row (rows_of t trees) (filter_map of rows)
later_held is other at First trees rows read = none_picked is rows (λ r there own. other (subst (IsIn First) own (first_alone (table_for r) (read.listed r there))))
later_held is other at Second trees rows read = held_of is trees (tables_of Second) rows at read

module _ (version : Version) (db : Database) (sound : IsDatabase db) (has : db.schema ≡ schema_of version) (rows : List PlanRow) (receipts : List Columns) (read : AreRead (tables_of version) db.trees rows) (receipts_read : AreReceiptsRead db.trees receipts) where
  stores_read : StoresIn version db (held_by rows receipts)
  stores_read = record {
    sound = sound;
    schema_is = has;
    metas = meta_held (db.trees 0) (filter_map meta_of rows) (meta_stored version db sound has) (held_of meta_table db.trees (tables_of version) rows (listed version table.Meta tt) read);
    workstations = held_of workstation_table db.trees (tables_of version) rows (listed version table.Workstation tt) read;
    intervals = held_of interval_table db.trees (tables_of version) rows (listed version table.Interval tt) read;
    resources = held_of resource_table db.trees (tables_of version) rows (listed version table.Resource tt) read;
    occurrences = held_of occurrence_table db.trees (tables_of version) rows (listed version table.Occurrence tt) read;
    operations = held_of operation_table db.trees (tables_of version) rows (listed version table.Operation tt) read;
    dependencies = held_of dependency_table db.trees (tables_of version) rows (listed version table.Dependency tt) read;
    needs = held_of need_table db.trees (tables_of version) rows (listed version table.Need tt) read;
    receipts = receipts_held db.trees receipts receipts_read;
    quantities = later_held quantity_table (λ is. is) (inr (inr (inr (inr (inr (inr (inr (inr (inl refl))))))))) version db.trees rows read;
    amounts = later_held amount_table (λ is. is) (inr (inr (inr (inr (inr (inr (inr (inr (inr (inl refl)))))))))) version db.trees rows read;
  }

  -- the database stores the rows that were read
  pub all_read : StoresRows version (Contains rows) (Contains receipts) db
  all_read = record { held = held_by rows receipts; stores = stores_read; rows = rows_held rows receipts; receipts = receipts_listed receipts }

-- ---- the rows that a database stores

module _ {version : Version} {IsRow : PlanRow → Type 0} {HasReceipt : Columns → Type 0} {db : Database} (h : StoresRows version IsRow HasReceipt db) where
  each : HoldEach IsRow h.held
  each = each_of h.rows

-- each table stores its rows
each_stores : (version : Version) (t : Table) → IsIn version t → {IsRow : PlanRow → Type 0} {HasReceipt : Columns → Type 0} {db : Database} → StoresRows version IsRow HasReceipt db → StoresOf t db.trees IsRow
each_stores First table.Quantity is {IsRow} {HasReceipt} {db} h = absurd is
each_stores First table.Amount is {IsRow} {HasReceipt} {db} h = absurd is
each_stores Second table.Quantity is {IsRow} {HasReceipt} {db} h = stores_of quantity_table db.trees IsRow h.held.quantities h.stores.quantities (each h).quantities
each_stores Second table.Amount is {IsRow} {HasReceipt} {db} h = stores_of amount_table db.trees IsRow h.held.amounts h.stores.amounts (each h).amounts
each_stores version table.Meta is {IsRow} {HasReceipt} {db} h = stores_of meta_table db.trees IsRow h.held.metas (meta_shown (db.trees 0) h.held.metas h.stores.metas) (each h).metas
each_stores version table.Workstation is {IsRow} {HasReceipt} {db} h = stores_of workstation_table db.trees IsRow h.held.workstations h.stores.workstations (each h).workstations
each_stores version table.Interval is {IsRow} {HasReceipt} {db} h = stores_of interval_table db.trees IsRow h.held.intervals h.stores.intervals (each h).intervals
each_stores version table.Resource is {IsRow} {HasReceipt} {db} h = stores_of resource_table db.trees IsRow h.held.resources h.stores.resources (each h).resources
each_stores version table.Occurrence is {IsRow} {HasReceipt} {db} h = stores_of occurrence_table db.trees IsRow h.held.occurrences h.stores.occurrences (each h).occurrences
each_stores version table.Operation is {IsRow} {HasReceipt} {db} h = stores_of operation_table db.trees IsRow h.held.operations h.stores.operations (each h).operations
each_stores version table.Dependency is {IsRow} {HasReceipt} {db} h = stores_of dependency_table db.trees IsRow h.held.dependencies h.stores.dependencies (each h).dependencies
each_stores version table.Need is {IsRow} {HasReceipt} {db} h = stores_of need_table db.trees IsRow h.held.needs h.stores.needs (each h).needs

-- a row that a database stores is of a table that it has
row_in : (version : Version) {IsRow : PlanRow → Type 0} {HasReceipt : Columns → Type 0} {db : Database} → StoresRows version IsRow HasReceipt db → (r : PlanRow) → IsRow r → IsIn version (table_for r)
row_in First h (row.Quantity r quantity) is = subst (λ xs. Has xs (quantity_columns r quantity)) h.stores.quantities ((h.rows.quantities (quantity_columns r quantity)).1 (r, quantity, is, refl))
row_in First h (row.Amount o r amount) is = subst (λ xs. Has xs (amount_columns o r amount)) h.stores.amounts ((h.rows.amounts (amount_columns o r amount)).1 (o, r, amount, is, refl))
row_in version h r is = tt

-- where a row is none of a plan or of a receipt, the database stores no set of rows that are in range
pub none_stored : {version : Version} {IsRow : PlanRow → Type 0} {HasReceipt : Columns → Type 0} {db : Database} → HasOtherRow version db.trees → ((r : PlanRow) → IsRow r → IsInRange r) → ¬ StoresRows version IsRow HasReceipt db
none_stored {version} (inl other) legal h =
    let it = (each_stores version other.0 other.2 h).1 other.1 other.3 in
    other.4 it.0 (it.2, legal it.0 it.1, it.3)
none_stored (inr other) legal h = let it = receipt_of h other.0 other.1 in other.2 it.0 it.2

within : {version : Version} {A B : PlanRow → Type 0} {R S : Columns → Type 0} {db : Database} → StoresRows version A R db → StoresRows version B S db → (r : PlanRow) → A r → B r
within {version} {A} {B} h k r in_a =
    let is = row_in version h r in_a in
    let stored = (each_stores version (table_for r) is h).0 r in_a refl in
    let it = (each_stores version (table_for r) is k).1 stored.0 stored.1 in
    subst B (one_of_columns it.0 r it.2 (sym it.3 ∙ stored.2)) it.1

-- a database stores one set of rows
pub one_stored : {version : Version} {A B : PlanRow → Type 0} {R S : Columns → Type 0} {db : Database} → StoresRows version A R db → StoresRows version B S db → (r : PlanRow) → A r ↔ B r
one_stored h k r = (within h k r, within k h r)

-- ---- the rows of a list

-- where these are the rows of a list, a database that stores the ones holds the others
pub listed_stored : {version : Version} {IsRow : PlanRow → Type 0} (rows : List PlanRow) (receipts : List Columns) (db : Database) → ((r : PlanRow) → Contains rows r ↔ IsRow r) → (h : StoresEach version rows receipts db) → HoldRows IsRow h.stores.held
listed_stored rows receipts db are h = rows_alike are h.stores.rows

-- where a database stores these rows, those that it stores each once are these
pub rows_listed : {version : Version} {IsRow : PlanRow → Type 0} {R : Columns → Type 0} (rows : List PlanRow) (receipts : List Columns) (db : Database) → StoresEach version rows receipts db → StoresRows version IsRow R db → (r : PlanRow) → Contains rows r ↔ IsRow r
rows_listed rows receipts db h k = one_stored h.stores k
