-- What CREATE TABLE makes of a schema that is known.
use Rattle.std.proofs.Common.{◌≡◌, ℕ, List, [], ◌∷◌, ◌++◌, false, sym, ap, subst, ◌∙◌, Ok, None}
use Rattle.std.specs.List.{AllByRecursion}
use Rattle.sqlite.specs.Change.{created, next_tree}
use Rattle.sqlite.specs.Command.TheVariants.{CreateTable}
use Rattle.sqlite.specs.Compile.{table_defined_by}
use Rattle.sqlite.specs.Does.{Tally, lacks_sequence}
use Rattle.sqlite.specs.Effect.{Database, IsDatabase}
use Rattle.sqlite.specs.Listing.{understood}
use Rattle.sqlite.specs.Schema.{Schema}
use Rattle.sqlite.specs.State.{State, Writes, Executes}
use Rattle.sqlite.specs.Table.{Table}
use Rattle.sqlite.specs.Tree.{Trees}
use Rattle.sqlite.proofs.Callers.{IsPlain, command_of, statement_of, runs_as}
use Rattle.sqlite_catalog.specs.Change.{KeepsRows}
use Rattle.store_schema.specs.Rows.{IsEmpty}
use Rattle.store_schema.proofs.Writes.{went, same_value}

-- the table is in the schema, with no row, and the other tables keep theirs
pub creates : (schema : Schema) (sql : List ℕ) (table : Table) (old new : State) (count : ℕ) → (command_of (understood schema sql) ≡ CreateTable) × (statement_of sql (understood schema sql) ≡ sql) × (table_defined_by sql ≡ Ok table)
    → IsPlain (understood schema sql) → lacks_sequence (created schema table) ≡ false → old.now.schema ≡ schema → Executes sql [] old new (Ok count)
    → IsDatabase new.now × (new.now.schema ≡ created schema table) × (new.now.trees (next_tree schema) ≡ []) × KeepsRows schema.tables old.now.trees new.now.trees
creates schema sql table old new count is plain bare has h =
    let w = subst (λ t. Writes old new None CreateTable t [] count) is.1 (runs_as sql [] old new schema has CreateTable is.0 plain count h) in
    let all = went w.changed in
    let first = went all.1 in
    let made = first.1 in
    let both : Ok made.table ≡ Ok table = sym made.defined ∙ is.2 in
    let same : made.table ≡ table = cc in
    let made_is : first.0.schema ≡ created schema table = made.is ∙ ap (λ s. created s made.table) has ∙ ap (created schema) same in
    let plain_ : lacks_sequence first.0.schema ≡ false = ap lacks_sequence made_is ∙ bare in
    let now : new.now ≡ first.0 = ap (λ (p : Tally × Database). p.1) (same_value all.2) ∙ same_value (rw plain_ at first.2) in (
      w.sound,
      ap (λ (d : Database). d.schema) now ∙ made_is,
      ap (λ (d : Database). d.trees (next_tree schema)) now ∙ subst (λ s. first.0.trees (next_tree s) ≡ []) has made.empty,
      subst (λ (d : Database). KeepsRows schema.tables old.now.trees d.trees) (sym now) (subst (λ s. KeepsRows s.tables old.now.trees first.0.trees) has made.others),
    )

more_empty : (before after : Trees) (tables : List Table) (new : Table) → KeepsRows tables before after → AllByRecursion (λ t. before t.tree ≡ []) tables → after new.tree ≡ [] → AllByRecursion (λ t. after t.tree ≡ []) (tables ++ new ∷ [])
more_empty before after [] new kept none empty = (empty, tt)
more_empty before after (t ∷ tables) new kept none empty = (kept.0 ∙ none.0, more_empty before after tables new kept.1 none.1 empty)

-- a database with no row has none after it
pub created_empty : (schema : Schema) (sql : List ℕ) (table : Table) (old new : State) (count : ℕ) → (command_of (understood schema sql) ≡ CreateTable) × (statement_of sql (understood schema sql) ≡ sql) × (table_defined_by sql ≡ Ok table)
    → IsPlain (understood schema sql) → lacks_sequence (created schema table) ≡ false → IsEmpty schema old.now → Executes sql [] old new (Ok count) → IsEmpty (created schema table) new.now × IsDatabase new.now
created_empty schema sql table old new count is plain bare was h =
    let it = creates schema sql table old new count is plain bare was.schema_is h in
    (record { schema_is = it.1; empty = more_empty old.now.trees new.now.trees schema.tables (record table { tree = next_tree schema }) it.3 was.empty it.2 }, it.0)
