-- The tables of the first version, and what they become.
use Rattle.std.specs.Prelude.{◌≡◌, ℕ, Bool, []}
use Rattle.sqlite.specs.Change.{created, next_tree}
use Rattle.sqlite.specs.Effect.{Database, IsDatabase}
use Rattle.sqlite.specs.Schema.{Schema}
use Rattle.sqlite.specs.Table.{Table}
use Rattle.sqlite_catalog.specs.Change.{KeepsRows}
use Rattle.store_schema.specs.plan_records.specs.declared.PlanRow.TheVariants as row
use Rattle.store_schema.specs.Schema.{first_schema, desk_schema}
use Rattle.store_schema.specs.StoredPlans.{Held, Stores, StoresFirst}
use Rattle.store_schema.specs.WrittenTables.{with_row}

-- one table more, which has no row, and the others keep theirs; and what comes to have it besides these had these
pub record Adds (from : Schema) (table : Table) (before after : Database) : Type 0 where
  pub made : before.schema ≡ from → IsDatabase after × (after.schema ≡ created from table) × (after.trees (next_tree from) ≡ []) × KeepsRows from.tables before.trees after.trees
  pub back : after.schema ≡ created from table → before.schema ≡ from

-- tables of the first version become those of the second: they hold what they held, but for the one row that has the version
pub record Upgrades (loaded : Bool) (clock : ℕ) (before after : Database) : Type 0 where
  pub stores : (held : Held) → StoresFirst before held → Stores after (with_row (row.Meta 2 loaded clock) held)
  pub back : after.schema ≡ desk_schema → before.schema ≡ first_schema
