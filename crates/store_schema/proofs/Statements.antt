-- What a statement that was executed makes of the tables.
use Rattle.std.proofs.Common.{◌≡◌, ℕ, ℤ, List, [], ◌∷◌, ◌++◌, ◌+◌, ◌/◌, length, append-nil, true, false, sym, ap, subst, ◌∙◌, inl, inr, Option, Some, None, Ok, slice_get}
use Rattle.std.specs.List.{list_all}
use Rattle.sqlite.specs.declared.types.Value.TheVariants.{Null, Int}
use Rattle.sqlite.specs.Order.{Row, column}
use Rattle.sqlite.specs.Tree.{Trees, rowid}
use Rattle.sqlite.specs.Term.{Term, eval_all, holds}
use Rattle.sqlite.specs.Table.{Table}
use Rattle.sqlite.specs.Schema.{Schema}
use Rattle.sqlite.specs.Command.{Command}
use Rattle.sqlite.specs.Source.TheVariants.{Values}
use Rattle.sqlite.specs.Rows.{Written, Task, InsertsOr, Upserts, Tries, Judged, TriesEach, shown, nothing, count_of}
use Rattle.sqlite.specs.Does.{Does, AtPlace, Tally, OnRows, WritesRows}
use Rattle.sqlite.specs.Edit.{with_rowid, next_rowid}
use Rattle.sqlite.specs.Effect.{Database, value_rows}
use Rattle.sqlite.specs.Listing.{understood}
use Rattle.sqlite.specs.State.{State, mode_of, Executes}
use Rattle.sqlite.specs.declared.run.Mode.{Mode}
use Rattle.sqlite.proofs.Callers.{IsPlain, command_of, statement_of, runs_as}
use Rattle.sqlite_schema.specs.declared.schema.Keys.TheVariants.{Enforced}
use Rattle.sqlite_rules.specs.declared.error.Rowids.TheVariants.{Chosen}
use Rattle.sqlite_value.specs.declared.keys.Order.{Order}
use Rattle.sqlite_value.specs.Keys.{plain}
use Rattle.std.specs.List.{range_with_len}
use Rattle.sqlite_schema.specs.declared.schema.Column.{Column}
use Rattle.sqlite_schema.specs.declared.command.Upsert.{Upsert}
use Rattle.sqlite_schema.specs.declared.command.Conflict.TheVariants.{Abort}
use Rattle.sqlite_rules.specs.Cast.{cast_row}
use Rattle.sqlite_rules.specs.Lists.{Has}
use Rattle.sqlite_rules.specs.declared.error.Refusal.{Refusal}
use Rattle.store_schema.specs.Commands.{upsert, upsert_clauses, pass_clauses, insert_or_pass, delete, key_terms, row_terms, update_terms}
use Rattle.store_schema.specs.Tables.{bare_table, placed}
use Rattle.store_schema.specs.Rows.{AreNumbered, same_key, Puts, Passes, Drops, OthersStay, Leaves}
use Rattle.store_schema.proofs.Writes.{Fits, went, same_value, upserted, passed, dropped}

module _ (schema : Schema) (limit : Option ℕ) (params : Row) (name : List ℕ) (columns : List Column) (rowid_column : Option ℕ) (primary : List ℕ) (uniques : List (List ℕ)) (orders : List Order) (tree : ℕ) where
  abbrev t : Table
  t = bare_table name columns rowid_column primary uniques orders tree

  abbrev task : Task
  task = record { limit = limit; keys = Enforced; schema = schema; table = t; params = params }

  -- a row of values is tried, under a new rowid where it gives none
  pub inserted : (db : Trees) (clauses : List Upsert) (terms : List Term) (width : ℕ) (w : Written) (row : Row) → value_rows params width (length terms / width) terms ≡ row ∷ [] → cast_row t row ≡ row
      → InsertsOr task Abort clauses (Values terms width) db (Ok w) → (one : Written) × Upserts task Abort (with_rowid Chosen (db tree) row) db clauses (Ok one) × (w.trees ≡ one.trees)
  inserted db clauses terms width w row source_is fresh h =
      let given = went h in
      let rows : given.0 ≡ row ∷ [] = given.1.1 ∙ ap (λ p. value_rows p width (length terms / width) terms) (append-nil params) ∙ source_is in
      let counter = went given.2 in
      let tried = went counter.2 in
      let each = subst (λ rs. TriesEach task Abort clauses rs (count_of counter.0) (nothing db) (Ok tried.0)) rows tried.1 in
      let first = went each in
      let new = subst (λ r. Tries task Abort clauses (with_rowid Chosen (db tree) r) db (Ok first.0)) fresh first.1 in
      let counted = went tried.2 in
      let done : tried.0.0.trees ≡ first.0.trees = ap (λ (p : Written × ℤ). p.0.trees) (same_value first.2) in
      let next : counted.0 ≡ tried.0.0.trees = same_value counted.1 in
      (first.0, judged (with_rowid Chosen (db tree) row) db clauses first.0 new, ap (λ (x : Written). x.trees) (same_value counted.2) ∙ next ∙ done)
    where
      judged : (new : Row) (db : Trees) (clauses : List Upsert) (one : Written) → Tries task Abort clauses new db (Ok one) → Upserts task Abort new db clauses (Ok one)
      judged new db clauses one (inl stopped) = absurd (let e = stopped.1 in cc)
      judged new db clauses one (inr it) = go it.0 it.2
        where
          go : (verdict : Option Refusal) → Judged task Abort clauses new db verdict (Ok one) → Upserts task Abort new db clauses (Ok one)
          go None h = h
          go (Some why) h = absurd (let e = h in cc)

  abbrev mode : Mode
  mode = record { keys = Enforced; in_doubt = false; may_wait = false }

  -- a write in a schema that has the table at this place
  pub did : (at : ℕ) (listed : slice_get schema.tables at ≡ Some t) (db : Trees) (k : Command) (tally : Tally) (after : Database)
      → AtPlace (λ x. OnRows (record { limit = limit; keys = Enforced; schema = schema; table = x; params = params }) mode None k db) (slice_get schema.tables at) (Ok (tally, after))
      → (w : Written) × WritesRows task db k (Ok w) × (after ≡ record { schema = schema; trees = w.trees })
  did at listed db k tally after h =
      let done = went (subst (λ o. AtPlace (λ x. OnRows (record { limit = limit; keys = Enforced; schema = schema; table = x; params = params }) mode None k db) o (Ok (tally, after))) listed h) in
      let now = ap (λ (p : Tally × Database). p.1) (same_value (went (went done.2).2).2) in
      (done.0, done.1, now)

-- what the texts of one table come to, at a row of values
pub record Takes (name : List ℕ) (columns : List Column) (key tree : ℕ) (v : Row) : Type 0 where
  pub source : value_rows v (length columns + 1) (length (row_terms (length columns)) / (length columns + 1)) (row_terms (length columns)) ≡ (Null ∷ v) ∷ []
  pub fresh : cast_row (placed name columns key tree) (Null ∷ v) ≡ Null ∷ v
  pub stays : (n : ℤ) → cast_row (placed name columns key tree) (Int n ∷ v) ≡ Int n ∷ v

module _ (schema : Schema) (name : List ℕ) (columns : List Column) (key tree at : ℕ) (fits : Fits schema Enforced (placed name columns key tree) key) (listed : slice_get schema.tables at ≡ Some (placed name columns key tree))
    (sql : List ℕ) (v : Row) (old new : State) (has : old.now.schema ≡ schema) (is_plain : IsPlain (understood schema sql)) (count : ℕ) (numbered : AreNumbered (old.now.trees tree)) where
  pub upserts : command_of (understood schema sql) ≡ upsert at tree (length columns) key → Takes name columns key tree v
      → ((id : ℤ) (r : Row) → same_key key r (Null ∷ v) ≡ true → Has (old.now.trees tree) r
      → (column (v ++ rowid r ∷ shown (placed name columns key tree) (Int id ∷ v)) (length columns) ≡ rowid r)
      × (eval_all (update_terms (length columns) key) ((v ++ rowid r ∷ shown (placed name columns key tree) (Int id ∷ v)) ∷ r ∷ []) ≡ rowid r ∷ rowid r ∷ v))
      → Executes sql v old new (Ok count) → Puts key v (old.now.trees tree) (new.now.trees tree) × Leaves schema tree old.now new.now
  upserts is takes update h =
      let k = upsert at tree (length columns) key in
      let w = runs_as sql v old new schema has k is is_plain count h in
      let made = subst (λ s. Does old.step_limit (mode_of old) v (record old.now { schema = s }) (statement_of sql (understood schema sql)) None k (Ok (w.tally, new.now))) has w.changed in
      let it = did schema old.step_limit v name columns None (range_with_len 1 key) (range_with_len 1 key ∷ []) (plain ∷ []) tree at listed old.now.trees k w.tally new.now made in
      let one = inserted schema old.step_limit v name columns None (range_with_len 1 key) (range_with_len 1 key ∷ []) (plain ∷ []) tree old.now.trees (upsert_clauses tree (length columns) key) (row_terms (length columns)) (length columns + 1) it.0 (Null ∷ v) takes.source takes.fresh it.1 in
      let put = upserted schema Enforced old.step_limit v (placed name columns key tree) key fits v takes.stays old.now.trees numbered (length columns) (update_terms (length columns) key) (λ id r there same. update id r same there) (next_rowid (old.now.trees tree)) one.0 one.1 in
      let trees : new.now.trees ≡ one.0.trees = ap (λ (d : Database). d.trees) it.2 ∙ one.2 in (
        subst (λ (x : Trees). Puts key v (old.now.trees tree) (x tree)) (sym trees) put.0,
        record { sound = w.sound; schema_is = ap (λ (d : Database). d.schema) it.2; others = subst (OthersStay schema tree old.now.trees) (sym trees) put.1 },
      )

  pub passes : command_of (understood schema sql) ≡ insert_or_pass at (length columns) key → Takes name columns key tree v → Executes sql v old new (Ok count)
      → Passes key v (old.now.trees tree) (new.now.trees tree) × Leaves schema tree old.now new.now
  passes is takes h =
      let k = insert_or_pass at (length columns) key in
      let w = runs_as sql v old new schema has k is is_plain count h in
      let made = subst (λ s. Does old.step_limit (mode_of old) v (record old.now { schema = s }) (statement_of sql (understood schema sql)) None k (Ok (w.tally, new.now))) has w.changed in
      let it = did schema old.step_limit v name columns None (range_with_len 1 key) (range_with_len 1 key ∷ []) (plain ∷ []) tree at listed old.now.trees k w.tally new.now made in
      let one = inserted schema old.step_limit v name columns None (range_with_len 1 key) (range_with_len 1 key ∷ []) (plain ∷ []) tree old.now.trees (pass_clauses key) (row_terms (length columns)) (length columns + 1) it.0 (Null ∷ v) takes.source takes.fresh it.1 in
      let put = passed schema Enforced old.step_limit v (placed name columns key tree) key fits v takes.stays old.now.trees numbered (next_rowid (old.now.trees tree)) one.0 one.1 in
      let trees : new.now.trees ≡ one.0.trees = ap (λ (d : Database). d.trees) it.2 ∙ one.2 in (
        subst (λ (x : Trees). Passes key v (old.now.trees tree) (x tree)) (sym trees) put.0,
        record { sound = w.sound; schema_is = ap (λ (d : Database). d.schema) it.2; others = subst (OthersStay schema tree old.now.trees) (sym trees) put.1 },
      )

  -- the parameters are the key
  pub drops : command_of (understood schema sql) ≡ delete at tree key → Executes sql v old new (Ok count)
      → Drops (λ r. list_all (holds (v ∷ r ∷ [])) (key_terms 0 key)) (old.now.trees tree) (new.now.trees tree) × Leaves schema tree old.now new.now
  drops is h =
      let k = delete at tree key in
      let w = runs_as sql v old new schema has k is is_plain count h in
      let made = subst (λ s. Does old.step_limit (mode_of old) v (record old.now { schema = s }) (statement_of sql (understood schema sql)) None k (Ok (w.tally, new.now))) has w.changed in
      let it = did schema old.step_limit v name columns None (range_with_len 1 key) (range_with_len 1 key ∷ []) (plain ∷ []) tree at listed old.now.trees k w.tally new.now made in
      let gone = dropped schema Enforced old.step_limit v (placed name columns key tree) key fits old.now.trees (key_terms 0 key) it.0 numbered it.1 in
      let trees : new.now.trees ≡ it.0.trees = ap (λ (d : Database). d.trees) it.2 in (
        subst (λ (x : Trees). Drops (λ r. list_all (holds (v ∷ r ∷ [])) (key_terms 0 key)) (old.now.trees tree) (x tree)) (sym trees) gone.0,
        record { sound = w.sound; schema_is = ap (λ (d : Database). d.schema) it.2; others = subst (OthersStay schema tree old.now.trees) (sym trees) gone.1 },
      )
