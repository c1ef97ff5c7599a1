-- A table whose key is the rowid, after an INSERT with ON CONFLICT on it.
use Rattle.std.proofs.Common.{◌≡◌, ℕ, ℤ, List, [], ◌∷◌, ◌++◌, ◌+◌, ◌/◌, ◌&&◌, length, Bool, true, false, not, refl, sym, ap, subst, ◌∙◌, inl, inr, Option, Some, None, Ok, nat_le, ◌^◌, slice_get}
use Rattle.std.specs.Ordering.{is_eq}
use Rattle.sqlite.specs.Effect.{Database, value_rows}
use Rattle.sqlite.specs.Listing.{understood}
use Rattle.sqlite.specs.Order.{Row, column, value_cmp}
use Rattle.sqlite.specs.Rows.{Task, Written, Meets, Clears, Updates, Upserts, Puts as PutsIn, shown}
use Rattle.sqlite.specs.Does.{Does}
use Rattle.sqlite.specs.Schema.{Schema}
use Rattle.sqlite.specs.State.{State, mode_of, Executes}
use Rattle.sqlite.specs.Table.{Table}
use Rattle.sqlite.specs.Term.{Term, eval_all}
use Rattle.sqlite.specs.Tree.{Trees, rowid, has_rowid}
use Rattle.sqlite.specs.declared.types.Value.{Value}
use Rattle.sqlite.specs.declared.types.Value.TheVariants.{Int}
use Rattle.sqlite.proofs.Callers.{IsPlain, command_of, statement_of, runs_as}
use Rattle.sqlite_rules.specs.Action.{works}
use Rattle.sqlite_rules.specs.Cast.{cast_row}
use Rattle.sqlite_rules.specs.Edit.{id_in}
use Rattle.sqlite_rules.specs.Keys.{AreConflicts, conflicts}
use Rattle.sqlite_rules.specs.Lists.{Has}
use Rattle.sqlite_rules.proofs.ListLemmas.{has_filtered, has_kept}
use Rattle.sqlite_schema.specs.Rules.{agree}
use Rattle.sqlite_schema.specs.declared.command.Upsert.{Upsert}
use Rattle.sqlite_schema.specs.declared.command.Conflict.TheVariants.{Abort}
use Rattle.sqlite_schema.specs.declared.schema.Column.{Column}
use Rattle.sqlite_schema.specs.declared.schema.Keys.TheVariants.{Enforced}
use Rattle.sqlite_value.specs.Keys.{first_key, plain}
use Rattle.store_schema.specs.Commands.{program, simple, equal_at, row_terms_by_rowid, update_terms_by_rowid, clauses_by_rowid, upsert_by_rowid}
use Rattle.store_schema.specs.Rows.{AreNumbered, PutsAt, OthersStay, Leaves}
use Rattle.store_schema.specs.Stored.{HoldsByRowid, with_value_at}
use Rattle.store_schema.specs.Tables.{placed_by_rowid}
use Rattle.store_schema.proofs.Rowids.{equal_is, numbered_has, rowid_is}
use Rattle.store_schema.proofs.Statements.{did, inserted}
use Rattle.store_schema.proofs.Writes.{not_is, put_new, put_over}

-- what the rules of a schema come to, of a table with no rule but its rowid
pub record FitsByRowid (schema : Schema) (table : Table) : Type 0 where
  pub low : nat_le (2 ^ 31) table.tree ≡ false
  pub still : (olds news : List Row) → works schema Enforced 0 table.tree olds news ≡ []
  pub met : (new r : Row) → conflicts (Some (0 ∷ [])) schema.indexes table new r ≡ agree plain (0 ∷ []) r (0 ∷ []) new

and_yes : (b : Bool) → (b && true) ≡ b
and_yes true = refl
and_yes false = refl

-- to agree in the rowid is to have it
agrees_there : (rows : List Row) (r v : Row) (id : ℤ) → AreNumbered rows → Has rows r → agree plain (0 ∷ []) r (0 ∷ []) (Int id ∷ v) ≡ has_rowid id r
unfolding first_key
agrees_there rows r v id numbered there =
    let is = numbered_has rows r numbered there in
    and_yes _ ∙ ap (λ x. Rattle.sqlite_schema.specs.Rules.equal Rattle.sqlite.specs.Collation.TheVariants.Binary x (Int id)) is ∙ equal_is (Int (id_in (rowid r))) (Int id) refl refl ∙ ap (λ x. is_eq (value_cmp x (Int id))) (sym is)

module _ (schema : Schema) (name : List ℕ) (columns : List Column) (tree at : ℕ) (fits : FitsByRowid schema (placed_by_rowid name columns tree)) (listed : slice_get schema.tables at ≡ Some (placed_by_rowid name columns tree))
    (sql : List ℕ) (is_plain : IsPlain (understood schema sql)) where
  abbrev t : Table
  t = placed_by_rowid name columns tree

  abbrev clause : Upsert
  clause = record { target = Some (0 ∷ []); update = Some (program (simple tree (equal_at 0 (length columns) ∷ []) (update_terms_by_rowid (length columns)))) }

  -- the parameters give a row of this rowid and these values, and an update of one that has the rowid gives the same
  module _ (params : Row) (id : ℤ) (v : Row) (source : value_rows params (length columns + 1) (length (row_terms_by_rowid (length columns)) / (length columns + 1)) (row_terms_by_rowid (length columns)) ≡ (Int id ∷ v) ∷ [])
      (stays : (n : ℤ) → cast_row t (Int n ∷ v) ≡ Int n ∷ v) (found : (x : Value) (more : Row) → column (params ++ x ∷ more) (length columns) ≡ x)
      (updated : (x : Value) (r : Row) → eval_all (update_terms_by_rowid (length columns)) ((params ++ x ∷ shown t (Int id ∷ v)) ∷ r ∷ []) ≡ rowid r ∷ rowid r ∷ v) where
    abbrev task : Option ℕ → Task
    task limit = record { limit = limit; keys = Enforced; schema = schema; table = t; params = params }

    -- the row meets no other, and is put in, or meets one, which it replaces
    upserted : (limit : Option ℕ) (db : Trees) → AreNumbered (db tree) → (one : Written) → Upserts (task limit) Abort (Int id ∷ v) db (clauses_by_rowid tree (length columns)) (Ok one)
        → PutsAt id v (db tree) (one.trees tree) × OthersStay schema tree db one.trees
    upserted limit db numbered one h = go h.0 h.1 h.2
      where
        cleared : (found : List Row) → Clears (task limit) Abort (Int id ∷ v) db found (Ok one) → PutsIn (task limit) (Int id ∷ v) db (Ok one)
        cleared [] h = h
        cleared (x ∷ more) h = h

        go : (found : List Row) → AreConflicts (Some (0 ∷ [])) schema.indexes t (db tree) (Int id ∷ v) found → Meets (task limit) (Upserts (task limit) Abort (Int id ∷ v) db []) (Int id ∷ v) db clause found (Ok one)
            → PutsAt id v (db tree) (one.trees tree) × OthersStay schema tree db one.trees
        go [] are h = let put = put_new schema Enforced limit params t fits.low fits.still v stays db numbered id one (cleared h.0 h.2) in (put.0, put.1)
        go (there ∷ more) are h =
            let it = are.sound there (inl refl) in
            let same : has_rowid id it.0 ≡ true = sym (agrees_there (db tree) it.0 v id numbered it.1) ∙ sym (fits.met (Int id ∷ v) it.0) ∙ it.2 in
            let own : id_in (rowid it.0) ≡ id = ap id_in (rowid_is (db tree) it.0 id numbered it.1 same) in
            let put = put_over schema Enforced limit params t fits.low fits.still v stays db numbered (length columns) (update_terms_by_rowid (length columns)) (params ++ rowid it.0 ∷ shown t (Int id ∷ v)) it.0 one it.1
            (found (rowid it.0) (shown t (Int id ∷ v))) (updated (rowid it.0) it.0)
            (subst (λ x. Updates (task limit) (program (simple tree (equal_at 0 (length columns) ∷ []) (update_terms_by_rowid (length columns)))) (params ++ rowid x ∷ shown t (Int id ∷ v)) db (Ok one)) it.3 h) in
            (subst (λ n. PutsAt n v (db tree) (one.trees tree)) own put.0, put.1)

    pub put_at : command_of (understood schema sql) ≡ upsert_by_rowid at tree (length columns) → (old new : State) (count : ℕ) → old.now.schema ≡ schema → AreNumbered (old.now.trees tree) → Executes sql params old new (Ok count)
        → PutsAt id v (old.now.trees tree) (new.now.trees tree) × Leaves schema tree old.now new.now
    put_at is old new count has numbered h =
        let k = upsert_by_rowid at tree (length columns) in
        let w = runs_as sql params old new schema has k is is_plain count h in
        let made = subst (λ s. Does old.step_limit (mode_of old) params (record old.now { schema = s }) (statement_of sql (understood schema sql)) None k (Ok (w.tally, new.now))) has w.changed in
        let it = did schema old.step_limit params name columns (Some 0) (0 ∷ []) [] [] tree at listed old.now.trees k w.tally new.now made in
        let one = inserted schema old.step_limit params name columns (Some 0) (0 ∷ []) [] [] tree old.now.trees (clauses_by_rowid tree (length columns)) (row_terms_by_rowid (length columns)) (length columns + 1) it.0 (Int id ∷ v) source (stays id) it.1 in
        let put = upserted old.step_limit old.now.trees numbered one.0 one.1 in
        let trees : new.now.trees ≡ one.0.trees = ap (λ (d : Database). d.trees) it.2 ∙ one.2 in (
          subst (λ (x : Trees). PutsAt id v (old.now.trees tree) (x tree)) (sym trees) put.0,
          record { sound = w.sound; schema_is = ap (λ (d : Database). d.schema) it.2; others = subst (OthersStay schema tree old.now.trees) (sym trees) put.1 },
        )

-- the value is put in
pub holds_put_at : {X : Type 0} (id : X → ℤ) (row : X → Row) (before after : List Row) (x : X) (v : Row) (xs : List X) → row x ≡ Int (id x) ∷ v → HoldsByRowid row before xs → PutsAt (id x) v before after
    → HoldsByRowid row after (with_value_at id row x xs)
holds_put_at id row before after x v xs is h p = record {
  numbered = p.numbered;
  sound = λ r there. elim (p.only r there) [
    | inl own ↦ (x, inl refl, own ∙ sym is)
    | inr was ↦ let it = h.sound r was.0 in (it.0, inr (has_kept (λ y. not (has_rowid (id x) (row y))) xs it.0 it.1 (ap not (ap (has_rowid (id x)) (sym it.2) ∙ was.1))), it.2)
  ];
  complete = λ y at. elim at [
    | inl same ↦ subst (Has after) (sym is ∙ ap row (sym same)) p.adds
    | inr later ↦ let old = has_filtered (λ z. not (has_rowid (id x) (row z))) xs y later in p.keeps (row y) (h.complete y old.0) (not_is _ old.1)
  ];
}
