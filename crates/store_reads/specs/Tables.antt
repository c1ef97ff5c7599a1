-- The rows that stand in each table, and those of a plan and of receipts that a database stores.
use Rattle.std.specs.Prelude.{◌≡◌, ◌≢◌, ◌↔◌, ◌⊎◌, ℕ, List, [], ◌∷◌, map, AllPairs, Contains, ⊤}
use Rattle.std.specs.List.{AllZip}
use Rattle.std.specs.List.Sorted.{IsPermutation}
use Rattle.sqlite.specs.Effect.{Database}
use Rattle.sqlite.specs.Order.{Row}
use Rattle.sqlite.specs.Tree.{Trees, IsAscending}
use Rattle.sqlite_rules.specs.Lists.{Has}
use Rattle.store_schema.specs.Rows.{AreNumbered, shown_by_rowid}
use Rattle.plan_records.specs.declared.PlanRow.{PlanRow}
use Rattle.store_schema.specs.StoredPlans.{Held, StoredReceipt, StoresIn}
use Rattle.store_schema.specs.declared.texts.Version.{Version}
use Rattle.store_schema.specs.declared.texts.Version.TheVariants.{First, Second}
use Rattle.store_schema.specs.declared.texts.TheConstants.{READ_META, READ_WORKSTATION, READ_INTERVAL, READ_RESOURCE, READ_OCCURRENCE, READ_OPERATION, READ_DEPENDENCY, READ_NEED, READ_QUANTITY, READ_AMOUNT}
use Rattle.store_schema.specs.Receipts.{stored_receipt}
use Rattle.store_schema.specs.WrittenTables.{HoldRows}
use Rattle.store_reads.specs.Receipts.{IsNoReceipt, IsReceiptStoredAs}
use Rattle.store_reads.specs.Rows.{AppendsRows, IsNoRow, IsStoredAs, table_for}
use Rattle.store_reads.specs.declared.decoding.Table.{Table}
use Rattle.store_reads.specs.declared.decoding.Table.TheVariants as table
use Rattle.store_schema.specs.tracker_receipts.specs.Stored.{Columns}

-- the text that reads a table of a plan
abbrev pub text_for : Table → List ℕ
text_for table.Meta = READ_META.now
text_for table.Workstation = READ_WORKSTATION.now
text_for table.Interval = READ_INTERVAL.now
text_for table.Resource = READ_RESOURCE.now
text_for table.Occurrence = READ_OCCURRENCE.now
text_for table.Operation = READ_OPERATION.now
text_for table.Dependency = READ_DEPENDENCY.now
text_for table.Need = READ_NEED.now
text_for table.Quantity = READ_QUANTITY.now
text_for table.Amount = READ_AMOUNT.now

-- the rows of a table, as they are read: the rowid, and then each column. In `meta` the rowid is the first column too
abbrev pub rows_of : Table → Trees → List Row
rows_of table.Meta trees = map (shown_by_rowid 5) (trees 0)
rows_of table.Workstation trees = trees 1
rows_of table.Interval trees = trees 3
rows_of table.Resource trees = trees 5
rows_of table.Occurrence trees = trees 7
rows_of table.Operation trees = trees 9
rows_of table.Dependency trees = trees 11
rows_of table.Need trees = trees 13
rows_of table.Quantity trees = trees 17
rows_of table.Amount trees = trees 19

-- the rows of the table of receipts, as they are read
abbrev pub receipt_rows : Trees → List Row
receipt_rows trees = trees 15

-- all tables of a plan, in the order in which they are read
abbrev pub tables_of : Version → List Table
tables_of First = table.Meta ∷ table.Workstation ∷ table.Interval ∷ table.Resource ∷ table.Occurrence ∷ table.Operation ∷ table.Dependency ∷ table.Need ∷ []
tables_of Second = table.Meta ∷ table.Workstation ∷ table.Interval ∷ table.Resource ∷ table.Occurrence ∷ table.Operation ∷ table.Dependency ∷ table.Need ∷ table.Quantity ∷ table.Amount ∷ []

-- a version has this table
abbrev pub IsIn : Version → Table → Type 0
IsIn First table.Quantity = ⊥
IsIn First table.Amount = ⊥
IsIn _ _ = ⊤

-- a row in a table of a plan is none of a plan, since a value is out of its range; or one of receipts is no receipt's
abbrev pub HasOtherRow : Version → Trees → Type 0
HasOtherRow version trees = ((t : Table) × (stored : Row) × IsIn version t × Has (rows_of t trees) stored × IsNoRow t stored) ⊎ ((stored : Row) × Has (receipt_rows trees) stored × IsNoReceipt stored)

-- the tables of this version are there, and hold these rows of a plan and these of receipts, and no others
pub record StoresRows (version : Version) (IsRow : PlanRow → Type 0) (HasReceipt : Columns → Type 0) (db : Database) : Type 0 where
  pub held : Held
  pub stores : StoresIn version db held
  pub rows : HoldRows IsRow held
  pub receipts : (x : StoredReceipt) → Has held.receipts x ↔ ((c : Columns) × HasReceipt c × (x ≡ stored_receipt c))

-- the tables of this version are there, and hold just these rows of a plan, each once, and of receipts, no two of one tracker
pub record StoresEach (version : Version) (rows : List PlanRow) (receipts : List Columns) (db : Database) : Type 0 where
  pub stores : StoresRows version (Contains rows) (Contains receipts) db
  pub once : AllPairs (λ a b. a ≢ b) rows
  pub once_receipts : AllPairs (λ a b. a.tracker ≢ b.tracker) receipts

-- the rows of a table, which their rowids tell apart, are read in some order, and appended as the rows of a plan that they are
pub record AddsTable (t : Table) (trees : Trees) (before after : List PlanRow) : Type 0 where
  pub numbered : AreNumbered (rows_of t trees)
  pub stored : List Row
  pub same : IsPermutation (rows_of t trees) stored
  pub added : AppendsRows t stored before after

-- the rows of the table of receipts, which their rowids tell apart, are read in some order: these receipts'
pub record AreReceiptsRead (trees : Trees) (receipts : List Columns) : Type 0 where
  pub numbered : AreNumbered (receipt_rows trees)
  pub stored : List Row
  pub same : IsPermutation (receipt_rows trees) stored
  pub read : AllZip IsReceiptStoredAs stored receipts

-- each row of the table is one of these rows of a plan
pub record IsTableRead (trees : Trees) (rows : List PlanRow) (t : Table) : Type 0 where
  pub numbered : AreNumbered (rows_of t trees)
  pub every : (stored : Row) → Has (rows_of t trees) stored → (r : PlanRow) × Has rows r × IsStoredAs t stored r

-- no element of a list comes again in it
abbrev pub AllDiffer : {X : Type 0} → List X → Type 0
AllDiffer {X} = IsAscending {X = X} (λ a b. a ≢ b)

-- these are the rows of a plan that stand in these tables, and no others; each is there once, if each table is
pub record AreRead (tables : List Table) (trees : Trees) (rows : List PlanRow) : Type 0 where
  pub tables_read : (t : Table) → Has tables t → IsTableRead trees rows t
  pub listed : (r : PlanRow) → Has rows r → Has tables (table_for r)
  pub only : (r : PlanRow) → Has rows r → (stored : Row) × Has (rows_of (table_for r) trees) stored × IsStoredAs (table_for r) stored r
  pub once : AllDiffer tables → AllDiffer rows
