-- What each text on a table leaves, of any table whose key is the first of its columns.
use Rattle.std.proofs.Common.{◌≡◌, ℕ, ◌<◌, List, [], ◌∷◌, map, length, codes, false, sym, subst, Some, Ok, Result, OnOk, slice_get, true, arith}
use Rattle.std.proofs.lemmas.List.{length-map}
use Rattle.std.specs.List.{AllByRecursion}
use Rattle.std.specs.List.Sorted.{IsPermutation}
use Rattle.sqlite.specs.Command.{Command}
use Rattle.sqlite.specs.Command.TheVariants.{CreateTable}
use Rattle.sqlite.specs.Compile.{table_defined_by}
use Rattle.sqlite.specs.Does.{lacks_sequence}
use Rattle.sqlite.specs.Effect.{Database, IsDatabase}
use Rattle.sqlite.specs.Listing.{understood, reads_listing}
use Rattle.sqlite.specs.Order.{Row}
use Rattle.sqlite.specs.Schema.{Schema}
use Rattle.sqlite.specs.State.{State, Executes, ExecutesInside, Shown}
use Rattle.sqlite.specs.Table.{Table}
use Rattle.sqlite.specs.declared.error.Error.{Error}
use Rattle.sqlite.proofs.Callers.{IsPlain, command_of, statement_of}
use Rattle.sqlite_catalog.specs.Change.{created}
use Rattle.sqlite_rules.specs.Lists.{Has}
use Rattle.sqlite_schema.specs.declared.schema.Column.{Column}
use Rattle.sqlite_schema.specs.declared.schema.Keys.TheVariants.{Enforced}
use Rattle.store_schema.specs.Commands.{upsert, select}
use Rattle.store_schema.specs.Rows.{IsEmpty, Leaves}
use Rattle.store_schema.specs.Stored.{AreRowsOf, Holds, with_value}
use Rattle.store_schema.specs.Tables.{placed}
use Rattle.store_schema.proofs.Creation.{created_empty}
use Rattle.store_schema.proofs.Inside.{ran_inside}
use Rattle.store_schema.proofs.Reading.{rows_read, row_width}
use Rattle.store_schema.proofs.Stored.{value_put}
use Rattle.store_schema.proofs.Writes.{Fits}
use Rattle.store_schema.specs.Schema.{desk_schema}
use Rattle.store_schema.specs.StoredPlans.{Held, Stores, Turns}
use Rattle.store_schema.proofs.Others.{AreTold, stored}

-- in the schema of all tables the text is this command and no more
pub record Means (sql : List ℕ) (command : Command) : Type 0 where
  pub is : command_of (understood desk_schema sql) ≡ command
  pub plain : IsPlain (understood desk_schema sql)
  pub unlisted : reads_listing desk_schema sql ≡ false

-- what a read of a table calls its columns: the rowid, and then each by its name
abbrev pub names_of : Table → List (List ℕ)
names_of t = codes "rowid" ∷ map (λ (c : Column). c.name) t.columns

-- the table is made
pub table_made : (schema : Schema) (sql : List ℕ) (t : Table) → (command_of (understood schema sql) ≡ CreateTable) × (statement_of sql (understood schema sql) ≡ sql) × (table_defined_by sql ≡ Ok t) → IsPlain (understood schema sql) → lacks_sequence (created schema t) ≡ false
    → (old new : State) (r : Result ℕ Error) → ExecutesInside 0 sql [] old new r → OnOk r (IsEmpty schema old.now → IsEmpty (created schema t) new.now × IsDatabase new.now)
table_made schema sql t is plain bare old new r = ran_inside old new sql [] r (IsEmpty schema old.now → IsEmpty (created schema t) new.now × IsDatabase new.now) (λ count ran was. created_empty schema sql t old new count is plain bare was ran)

-- a table whose key is so many of its first columns, which has its rows in this tree and this place in the schema: what is computed of it, and which of the values that are held it holds
pub record IsTable {X : Type 0} (t : Table) (key tree at : ℕ) (row : X → Row) (values : Held → List X) (with_values : List X → Held → Held) : Type 0 where
  pub listed : slice_get desk_schema.tables at ≡ Some (placed t.name t.columns key tree)
  -- it has no rule in the schema but its key
  pub fits : Fits desk_schema Enforced (placed t.name t.columns key tree) key
  -- its values stand as rows of it
  pub rows : AreRowsOf t.name t.columns key tree row
  pub filled : AllByRecursion (λ (c : Column). c.not_null ≡ true) t.columns
  pub wide : 0 < length t.columns
  pub held : (db : Database) (was : Held) → Stores db was → Holds row (db.trees tree) (values was)
  pub told : (db : Database) (was : Held) (xs : List X) → Holds row (db.trees tree) xs → AreTold tree db was (with_values xs was)

module _ {X : Type 0} {t : Table} {key tree at : ℕ} {row : X → Row} {values : Held → List X} {with_values : List X → Held → Held} (table : IsTable t key tree at row values with_values) where
  -- what a text makes of the rows of such values it makes of those that are held
  pub turned : (sql : List ℕ) (params : Row) (change : List X → List X) (old new : State) (r : Result ℕ Error)
      → ((xs : List X) (count : ℕ) → old.now.schema ≡ desk_schema → Holds row (old.now.trees tree) xs → Executes sql params old new (Ok count) → Holds row (new.now.trees tree) (change xs) × Leaves desk_schema tree old.now new.now)
      → ExecutesInside 0 sql params old new r → OnOk r (Turns (λ was. with_values (change (values was)) was) old.now new.now)
  turned sql params change old new r makes = ran_inside old new sql params r (Turns (λ was. with_values (change (values was)) was) old.now new.now) (λ count ran was holds.
      let it = makes (values was) count holds.schema_is (table.held old.now was holds) ran in
      stored tree old.now new.now was _ it.1 holds (table.told new.now was _ it.0))

  -- a row is put in
  pub row_put : {sql : List ℕ} → Means sql (upsert at tree (length t.columns) key) → (old new : State) (x : X) (r : Result ℕ Error) → ExecutesInside 0 sql (row x) old new r
      → OnOk r (Turns (λ was. with_values (with_value key row x (values was)) was) old.now new.now)
  row_put {sql} means old new x r = turned sql (row x) (with_value key row x) old new r (λ xs count. value_put desk_schema t.name t.columns key tree at table.fits table.listed row table.rows sql means.plain means.is old new x xs count)

  -- all rows are read, each once
  pub all_read : {sql : List ℕ} → Means sql (select tree (names_of t)) → (old new : State) (rows : List Row) → IsDatabase old.now → old.now.schema ≡ desk_schema → Shown sql [] old new rows → IsPermutation (old.now.trees tree) rows
  all_read {sql} means old new rows sound has = rows_read desk_schema sql tree (names_of t) table.fits.low means.is means.plain means.unlisted old new rows has
      (λ r there. omega (arith, length-map t.columns (λ (c : Column). c.name), row_width old.now sound t.name t.columns key tree (subst (λ s. Has s.tables (placed t.name t.columns key tree)) (sym has) table.fits.listed) table.filled table.wide r there))
