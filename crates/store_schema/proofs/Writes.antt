-- What an INSERT with ON CONFLICT on the key and a DELETE by it make of a table.
use Rattle.std.proofs.Common.{◌≡◌, ℕ, ℤ, List, [], ◌∷◌, ◌++◌, ◌&&◌, map, filter, Bool, true, false, not, refl, sym, ap, subst, ◌∙◌, inl, inr, ◌⊎◌, Option, Some, None, Ok, Err, Result, nat_le, ◌^◌}
use Rattle.std.specs.List.{list_all, range_with_len}
use Rattle.std.specs.Ordering.{is_eq}
use Rattle.std.proofs.lemmas.Bool.{cases_Bool, true≢false}
use Rattle.sqlite.specs.declared.types.Value.{Value}
use Rattle.sqlite.specs.declared.types.Value.TheVariants.{Null, Int}
use Rattle.sqlite.specs.Order.{Row, value_cmp, column}
use Rattle.sqlite.specs.Tree.{Trees, rowid, has_rowid, without_rowid}
use Rattle.sqlite.specs.Ops.{is_true, binary}
use Rattle.sqlite.specs.Term.{Term, col, op2, eval_all, holds}
use Rattle.sqlite.specs.Table.{Table}
use Rattle.sqlite.specs.Schema.{Schema}
use Rattle.sqlite.specs.Edit.{edit_of, id_in, put_all, without_all}
use Rattle.sqlite.specs.Rows.{Written, Task, Puts as PutsIn, Updates, Deletes, shown, Meets, Upserts, Clears}
use Rattle.sqlite.proofs.Callers.{one_step, one_permutation}
use Rattle.sqlite_schema.specs.declared.schema.Index.{Index}
use Rattle.sqlite_schema.specs.declared.schema.Keys.{Keys}
use Rattle.sqlite_schema.specs.declared.schema.Constraint.TheVariants.{Unique}
use Rattle.sqlite_schema.specs.declared.command.Upsert.{Upsert}
use Rattle.sqlite_schema.specs.declared.command.Conflict.TheVariants.{Abort}
use Rattle.sqlite_schema.specs.Rules.{agree, clashes, guards, passes, differ}
use Rattle.sqlite_sql.specs.declared.ops.BinaryOp.TheVariants.{Compare}
use Rattle.sqlite_sql.specs.declared.ops.CompareOp.TheVariants.{Eq}
use Rattle.sqlite.specs.Collation.TheVariants.{Binary}
use Rattle.std.proofs.lemmas.Cmp.{tied_itself}
use Rattle.std.proofs.lemmas.Bool.{and_parts}
use Rattle.std.specs.List.Sorted.{IsPermutation}
use Rattle.std.proofs.lemmas.List.Sorted.{IsPermutation-sym}
use Rattle.sqlite_value.proofs.OrderLemmas.{value_cmp_total}
use Rattle.sqlite_rules.specs.declared.error.Rowids.TheVariants.{Given}
use Rattle.sqlite_rules.specs.Lists.{Has}
use Rattle.sqlite_rules.specs.Calls.{ids_of}
use Rattle.sqlite_rules.specs.Cast.{cast_row}
use Rattle.sqlite_rules.specs.Edit.{Applies, taken_by, are_fresh}
use Rattle.sqlite_rules.specs.Action.{works}
use Rattle.sqlite_rules.specs.Keys.{AreConflicts, conflicts}
use Rattle.sqlite_rules.proofs.ListLemmas.{test_has, some_from, has_filtered, has_kept, all_from}
use Rattle.sqlite_rules.proofs.RuleLemmas.{keeps_at}
use Rattle.sqlite_rules.proofs.TableLemmas.{without_all_has, put_all_adds, put_all_has, put_all_keeps}
use Rattle.sqlite_value.specs.Keys.{plain}
use Rattle.store_schema.specs.Commands.{simple, program}
use Rattle.store_schema.specs.Rows.{AreNumbered, same_key, Puts, PutsAt, Passes, Drops, OthersStay}
use Rattle.store_schema.proofs.Queries.{answered, has_permuted, has_mapped, mapped_has}
use Rattle.store_schema.proofs.Rowids.{fresh_other, equal_is, eq_of, same_integer, numbered_has, rowid_is, distinct, single, differs, numbered_put, numbered_without, numbered_without_all}

-- what the rules of a schema come to, of a table with no rule but its key
pub record Fits (schema : Schema) (keys : Keys) (table : Table) (key : ℕ) : Type 0 where
  pub low : nat_le (2 ^ 31) table.tree ≡ false
  pub listed : Has schema.tables table
  pub still : (olds news : List Row) → works schema keys 0 table.tree olds news ≡ []
  pub met : (new r : Row) → conflicts (Some (range_with_len 1 key)) schema.indexes table new r ≡ same_key key r new
  pub index : (i : Index) × Has schema.indexes i × (guards i table ≡ true) × (i.order ≡ plain) × (i.columns ≡ range_with_len 1 key)
  pub blind : (x y : Value) (r v : Row) → same_key key r (x ∷ v) ≡ same_key key r (y ∷ v)

pub not_is : (b : Bool) → not b ≡ true → b ≡ false
not_is true h = absurd (true≢false (sym h))
not_is false h = refl

-- a part that gave a value did not stop on the way
pub went : {B E R : Type 0} {b : B} {Stops : E → Type 0} → ((stop : E) × Stops stop × (Ok b ≡ Err stop)) ⊎ R → R
went (inl stopped) = absurd (let e = stopped.2 in cc)
went (inr on) = on

pub same_value : {B E : Type 0} {a b : B} → ◌≡◌ {A = Result B E} (Ok a) (Ok b) → a ≡ b
same_value e = cc

same_ints : (a b : Value) (m n : ℤ) → a ≡ Int m → b ≡ Int n → is_true (binary (Compare Eq Binary) a b) ≡ is_eq (value_cmp a b)
same_ints a b m n p q = rw (p, q) (equal_is (Int m) (Int n) refl refl)

-- the filter that finds a row by its rowid
abbrev at_rowid : ℕ → List Term
at_rowid n = op2 (Compare Eq Binary) (col 1 0) (col 0 n) ∷ []

found_alone : (rows : List Row) (r : Row) (given : Row) (n : ℕ) → AreNumbered rows → Has rows r → column given n ≡ rowid r → filter (λ x. list_all (holds (given ∷ x ∷ [])) (at_rowid n)) rows ≡ r ∷ []
found_alone rows r given n numbered there is =
    let int = numbered_has rows r numbered there in
    let wanted : column given n ≡ Int (id_in (rowid r)) = is ∙ int in
    single (λ x. list_all (holds (given ∷ x ∷ [])) (at_rowid n)) rows r numbered there
    (rw (same_ints (rowid r) (column given n) (id_in (rowid r)) (id_in (rowid r)) int wanted, is, tied_itself value_cmp_total (rowid r)) refl)
    (λ x at passes.
    let first = (and_parts _ _ passes).0 in
    let test = sym (same_ints (rowid x) (column given n) (id_in (rowid x)) (id_in (rowid r)) (numbered_has rows x numbered at) wanted) ∙ first in
    same_integer (rowid x) (column given n) (id_in (rowid x)) (id_in (rowid r)) (numbered_has rows x numbered at) wanted (eq_of _ test) ∙ is)

-- ---- one row is put in

-- the table has no tree of a query's own, and no foreign key acts on it
module _ (schema : Schema) (keys : Keys) (limit : Option ℕ) (params : Row) (table : Table) (low : nat_le (2 ^ 31) table.tree ≡ false) (still : (olds news : List Row) → works schema keys 0 table.tree olds news ≡ [])
    (v : Row) (stays : (n : ℤ) → cast_row table (Int n ∷ v) ≡ Int n ∷ v) (db : Trees) (numbered : AreNumbered (db table.tree)) where
  abbrev work : Task
  work = record { limit = limit; keys = keys; schema = schema; table = table; params = params }

  -- under a rowid that no row has
  pub put_new : (id : ℤ) (w : Written) → PutsIn work (Int id ∷ v) db (Ok w)
      → PutsAt id v (db table.tree) (w.trees table.tree) × OthersStay schema table.tree db w.trees × ((r : Row) → Has (db table.tree) r → has_rowid id r ≡ false)
  put_new id w h =
      let edit = edit_of db table [] Given 0 ((Int id ∷ v) ∷ []) in
      let it = went h in
      let next = it.0 in
      let a : Applies schema keys db edit next = one_step schema keys db next edit (still (taken_by db edit) edit.news) it.1 in
      let trees : w.trees ≡ next = ap (λ (x : Written). x.trees) (same_value it.2) in
      let news : edit.news ≡ (Int id ∷ v) ∷ [] = ap (λ r. r ∷ []) (stays id) in
      let is : next table.tree ≡ put_all (db table.tree) ((Int id ∷ v) ∷ []) = a.rows ∙ ap (put_all (db table.tree)) news in
      let fresh : are_fresh (db table.tree) ((Int id ∷ v) ∷ []) ≡ true = subst (λ l. are_fresh (db table.tree) l ≡ true) news a.fresh in
      let puts : PutsAt id v (db table.tree) (put_all (db table.tree) ((Int id ∷ v) ∷ [])) = record {
        numbered = numbered_put (Int id ∷ v) (db table.tree) numbered refl fresh;
        adds = put_all_adds ((Int id ∷ v) ∷ []) (db table.tree) (Int id ∷ v) fresh (inl refl);
        keeps = λ r there other. put_all_keeps ((Int id ∷ v) ∷ []) (db table.tree) r fresh there;
        only = λ r there. elim (put_all_has ((Int id ∷ v) ∷ []) (db table.tree) r there) [
          | inl (inl same) ↦ inl same
          | inl (inr none) ↦ absurd none
          | inr was ↦ inr (was, fresh_other (db table.tree) (Int id ∷ v) id numbered fresh refl r was)
        ];
      } in (
        subst (λ (t : Trees). PutsAt id v (db table.tree) (t table.tree)) (sym trees) (subst (PutsAt id v (db table.tree)) (sym is) puts),
        subst (OthersStay schema table.tree db) (sym trees) a.tables,
        λ r there. fresh_other (db table.tree) (Int id ∷ v) id numbered fresh refl r there,
      )

  -- in place of a row that is there, under its rowid
  pub put_over : (n : ℕ) (project : List Term) (given : Row) (r : Row) (w : Written) → Has (db table.tree) r → column given n ≡ rowid r
      → eval_all project (given ∷ r ∷ []) ≡ rowid r ∷ rowid r ∷ v → Updates work (program (simple table.tree (at_rowid n) project)) given db (Ok w)
      → PutsAt (id_in (rowid r)) v (db table.tree) (w.trees table.tree) × OthersStay schema table.tree db w.trees × Rattle.sqlite_schema.specs.Rules.Fits schema w.trees
  put_over n project given r w there given_is shown_is h =
      let id = id_in (rowid r) in
      let int : rowid r ≡ Int id = numbered_has (db table.tree) r numbered there in
      let asked = went h in
      let perm = answered (record { schema = schema; trees = db }) table.tree (at_rowid n) project [] given asked.0 low asked.1 in
      let matched = found_alone (db table.tree) r given n numbered there given_is in
      let one : asked.0 ≡ (rowid r ∷ rowid r ∷ v) ∷ [] =
      one_permutation _ asked.0 (subst (λ l. IsPermutation l asked.0) (ap (map (λ x. eval_all project (given ∷ x ∷ []))) matched ∙ ap (λ x. x ∷ []) shown_is) perm) in
      let it = went asked.2 in
      let next = it.0 in
      let trees : w.trees ≡ next = ap (λ (x : Written). x.trees) (same_value it.2) in
      let a : Applies schema keys db (edit_of db table (id ∷ []) Given 1 ((rowid r ∷ rowid r ∷ v) ∷ [])) next =
      subst (λ l. Applies schema keys db (edit_of db table (ids_of l) Given 1 l) next) one (let edit = edit_of db table (ids_of asked.0) Given 1 asked.0 in one_step schema keys db next edit (still (taken_by db edit) edit.news) it.1) in
      let put : cast_row table (rowid r ∷ v) ≡ Int id ∷ v = rw int (stays id) in
      let left = without_rowid id (db table.tree) in
      let is : next table.tree ≡ put_all left ((Int id ∷ v) ∷ []) = a.rows ∙ ap (λ x. put_all left (x ∷ [])) put in
      let fresh : are_fresh left ((Int id ∷ v) ∷ []) ≡ true = subst (λ x. are_fresh left (x ∷ []) ≡ true) put a.fresh in
      let puts : PutsAt id v (db table.tree) (put_all left ((Int id ∷ v) ∷ [])) = record {
        numbered = numbered_put (Int id ∷ v) left (numbered_without id (db table.tree) numbered) refl fresh;
        adds = put_all_adds ((Int id ∷ v) ∷ []) left (Int id ∷ v) fresh (inl refl);
        keeps = λ x at apart. put_all_keeps ((Int id ∷ v) ∷ []) left x fresh (has_kept (λ y. not (has_rowid id y)) (db table.tree) x at (rw apart refl));
        only = λ x at. elim (put_all_has ((Int id ∷ v) ∷ []) left x at) [
          | inl (inl new) ↦ inl new
          | inl (inr none) ↦ absurd none
          | inr was ↦ inr (let old = has_filtered (λ y. not (has_rowid id y)) (db table.tree) x was in (old.0, not_is _ old.1))
        ];
      } in (
        subst (λ (t : Trees). PutsAt id v (db table.tree) (t table.tree)) (sym trees) (subst (PutsAt id v (db table.tree)) (sym is) puts),
        subst (OthersStay schema table.tree db) (sym trees) a.tables,
        subst (λ (t : Trees). Rattle.sqlite_schema.specs.Rules.Fits schema t) (sym trees) a.fits,
      )

-- ---- by a key of the first columns

module _ (schema : Schema) (keys : Keys) (limit : Option ℕ) (params : Row) (table : Table) (key : ℕ) (fits : Fits schema keys table key) where
  abbrev task : Task
  task = record { limit = limit; keys = keys; schema = schema; table = table; params = params }

  module _ (v : Row) (stays : (n : ℤ) → cast_row table (Int n ∷ v) ≡ Int n ∷ v) (db : Trees) (numbered : AreNumbered (db table.tree)) where
    -- no other row has the key of a row that is in
    unlike : (next : Trees) (n : ℤ) (r : Row) → Rattle.sqlite_schema.specs.Rules.Fits schema next → Has (next table.tree) (Int n ∷ v) → Has (next table.tree) r → differ (rowid r) (Int n) ≡ true → same_key key r (Null ∷ v) ≡ false
    unlike next n r rules in_ there apart =
        let passed = keeps_at Unique schema next table (Int n ∷ v) (rules.rules Unique (λ e. let x = e in cc)) fits.listed in_ in
        let i = fits.index in
        let free : not (guards i.0 table && clashes i.0.order i.0.columns (next table.tree) (Int n ∷ v)) ≡ true = test_has _ schema.indexes i.0 passed i.1 in
        elim (cases_Bool (same_key key r (Null ∷ v))) [
          | inl same ↦ absurd (
              let both : (same_key key r (Int n ∷ v) && differ (rowid r) (Int n)) ≡ true = rw (fits.blind (Int n) Null r v, same, apart) refl in
              let clash : clashes plain (range_with_len 1 key) (next table.tree) (Int n ∷ v) ≡ true = some_from _ (next table.tree) r there both in
              let e = rw (i.2, i.3, i.4, clash) at free in true≢false (sym e))
          | inr other ↦ other
        ]

    alone : (id : ℤ) (w : Written) → ((r : Row) → Has (db table.tree) r → same_key key r (Null ∷ v) ≡ false) → PutsIn task (Int id ∷ v) db (Ok w)
        → Puts key v (db table.tree) (w.trees table.tree) × OthersStay schema table.tree db w.trees
    alone id w free h =
        let put = put_new schema keys limit params table fits.low fits.still v stays db numbered id w h in
        let p = put.0 in (
          record {
            numbered = p.numbered;
            adds = (id, p.adds);
            keeps = λ r there other. p.keeps r there (put.2 r there);
            only = λ r there. elim (p.only r there) [ inl own ↦ inl (id, own) | inr was ↦ inr (was.0, free r was.0) ];
          },
          put.1,
        )

    over : (n : ℕ) (project : List Term) (given : Row) (r : Row) (w : Written) → Has (db table.tree) r → same_key key r (Null ∷ v) ≡ true → column given n ≡ rowid r
        → eval_all project (given ∷ r ∷ []) ≡ rowid r ∷ rowid r ∷ v → Updates task (program (simple table.tree (at_rowid n) project)) given db (Ok w)
        → Puts key v (db table.tree) (w.trees table.tree) × OthersStay schema table.tree db w.trees
    over n project given r w there same given_is shown_is h =
        let put = put_over schema keys limit params table fits.low fits.still v stays db numbered n project given r w there given_is shown_is h in
        let id = id_in (rowid r) in
        let int : rowid r ≡ Int id = numbered_has (db table.tree) r numbered there in
        let p = put.0 in (
          record {
            numbered = p.numbered;
            adds = (id, p.adds);
            keeps = λ x at other. elim (cases_Bool (has_rowid id x)) [
              | inl own ↦ absurd (
                  let equal = distinct (db table.tree) x r numbered at there (rowid_is (db table.tree) x id numbered at own ∙ sym int) in
                  true≢false (sym same ∙ ap (λ y. same_key key y (Null ∷ v)) (sym equal) ∙ other))
              | inr apart ↦ p.keeps x at apart
            ];
            only = λ x at. elim (p.only x at) [
              | inl own ↦ inl (id, own)
              | inr was ↦ inr (was.0, unlike w.trees id x put.2 p.adds at (differs (db table.tree) x id numbered was.0 was.1))
            ];
          },
          put.1,
        )

    module _ (n : ℕ) (project : List Term) (update_is : (id : ℤ) (r : Row) → Has (db table.tree) r → same_key key r (Null ∷ v) ≡ true
        → (column (params ++ rowid r ∷ shown table (Int id ∷ v)) n ≡ rowid r)
        × (eval_all project ((params ++ rowid r ∷ shown table (Int id ∷ v)) ∷ r ∷ []) ≡ rowid r ∷ rowid r ∷ v)) where
      abbrev clause : Upsert
      clause = record { target = Some (range_with_len 1 key); update = Some (program (simple table.tree (at_rowid n) project)) }

      -- the row meets no other, and is put in, or meets one, which it replaces
      pub upserted : (id : ℤ) (w : Written) → Upserts task Abort (Int id ∷ v) db (clause ∷ []) (Ok w) → Puts key v (db table.tree) (w.trees table.tree) × OthersStay schema table.tree db w.trees
      upserted id w h = go h.0 h.1 h.2
        where
          met : (r : Row) → same_key key r (Null ∷ v) ≡ conflicts (Some (range_with_len 1 key)) schema.indexes table (Int id ∷ v) r
          met r = fits.blind Null (Int id) r v ∙ sym (fits.met (Int id ∷ v) r)

          go : (found : List Row) → AreConflicts clause.target schema.indexes table (db table.tree) (Int id ∷ v) found → Meets task (Upserts task Abort (Int id ∷ v) db []) (Int id ∷ v) db clause found (Ok w)
              → Puts key v (db table.tree) (w.trees table.tree) × OthersStay schema table.tree db w.trees
          go [] are h = alone id w (λ r there. elim (cases_Bool (same_key key r (Null ∷ v))) [
            | inl same ↦ absurd (are.complete r there (sym (met r) ∙ same))
            | inr other ↦ other
          ]) (cleared h.0 h.2)
            where
              cleared : (found : List Row) → Clears task Abort (Int id ∷ v) db found (Ok w) → PutsIn task (Int id ∷ v) db (Ok w)
              cleared [] h = h
              cleared (x ∷ more) h = h
          go (there ∷ more) are h =
              let it = are.sound there (inl refl) in
              let same = met it.0 ∙ it.2 in
              let was = update_is id it.0 it.1 same in
              over n project (params ++ rowid it.0 ∷ shown table (Int id ∷ v)) it.0 w it.1 same was.0 was.1
              (subst (λ x. Updates task (program (simple table.tree (at_rowid n) project)) (params ++ rowid x ∷ shown table (Int id ∷ v)) db (Ok w)) it.3 h)

    abbrev pass : Upsert
    pass = record { target = Some (range_with_len 1 key); update = None }

    -- the row meets no other, and is put in, or nothing is done
    pub passed : (id : ℤ) (w : Written) → Upserts task Abort (Int id ∷ v) db (pass ∷ []) (Ok w) → Passes key v (db table.tree) (w.trees table.tree) × OthersStay schema table.tree db w.trees
    passed id w h = go h.0 h.1 h.2
      where
        met : (r : Row) → same_key key r (Null ∷ v) ≡ conflicts (Some (range_with_len 1 key)) schema.indexes table (Int id ∷ v) r
        met r = fits.blind Null (Int id) r v ∙ sym (fits.met (Int id ∷ v) r)

        cleared : (found : List Row) → Clears task Abort (Int id ∷ v) db found (Ok w) → PutsIn task (Int id ∷ v) db (Ok w)
        cleared [] h = h
        cleared (x ∷ more) h = h

        go : (found : List Row) → AreConflicts (Some (range_with_len 1 key)) schema.indexes table (db table.tree) (Int id ∷ v) found
            → Meets task (Upserts task Abort (Int id ∷ v) db []) (Int id ∷ v) db pass found (Ok w)
            → Passes key v (db table.tree) (w.trees table.tree) × OthersStay schema table.tree db w.trees
        go [] are h =
            let put = alone id w (λ r there. elim (cases_Bool (same_key key r (Null ∷ v))) [
              | inl same ↦ absurd (are.complete r there (sym (met r) ∙ same))
              | inr other ↦ other
            ]) (cleared h.0 h.2) in
            (inl put.0, put.1)
        go (there ∷ more) are h =
            let it = are.sound there (inl refl) in
            let same : w.trees ≡ db = ap (λ (x : Written). x.trees) (same_value h) in
            (inr (ap (λ (t : Trees). t table.tree) same, it.0, it.1, met it.0 ∙ it.2), subst (OthersStay schema table.tree db) (sym same) (all_from _ schema.tables (λ t at other. refl)))

  gone_not : (ids : List ℤ) (rows : List Row) (r : Row) (id : ℤ) → Has (without_all rows ids) r → Has ids id → has_rowid id r ≡ false
  gone_not (x ∷ ids) rows r id h (inl same) = subst (λ y. has_rowid y r ≡ false) (sym same) (not_is _ (has_filtered (λ y. not (has_rowid x y)) rows r (without_all_has ids (without_rowid x rows) r h)).1)
  gone_not (x ∷ ids) rows r id h (inr later) = gone_not ids (without_rowid x rows) r id h later
  gone_not [] rows r id h none = absurd none

  not_gone : (ids : List ℤ) (rows : List Row) (r : Row) → Has rows r → ((id : ℤ) → Has ids id → has_rowid id r ≡ false) → Has (without_all rows ids) r
  not_gone [] rows r h each = h
  not_gone (x ∷ ids) rows r h each = not_gone ids (without_rowid x rows) r (has_kept (λ y. not (has_rowid x y)) rows r h (ap not (each x (inl refl)))) (λ id there. each id (inr there))

  -- the rows that the filter finds are gone
  pub dropped : (db : Trees) (filt : List Term) (w : Written) → AreNumbered (db table.tree) → Deletes task (program (simple table.tree filt (col 1 0 ∷ []))) db (Ok w)
      → Drops (λ r. list_all (holds (params ∷ r ∷ [])) filt) (db table.tree) (w.trees table.tree) × OthersStay schema table.tree db w.trees
  dropped db filt w numbered h =
      let asked = went h in
      let p = λ (r : Row). list_all (holds (params ∷ r ∷ [])) filt in
      let ids = ids_of asked.0 in
      let shows = λ (r : Row). eval_all (col 1 0 ∷ []) (params ∷ r ∷ []) in
      let perm = answered (record { schema = schema; trees = db }) table.tree filt (col 1 0 ∷ []) [] params asked.0 fits.low asked.1 in
      let it = went asked.2 in
      let next = it.0 in
      let edit = edit_of db table ids Given 0 [] in
      let trees : w.trees ≡ next = ap (λ (x : Written). x.trees) (same_value it.2) in
      let a : Applies schema keys db edit next = one_step schema keys db next edit (fits.still (taken_by db edit) edit.news) it.1 in
      let is : next table.tree ≡ without_all (db table.tree) ids = a.rows in
      let drops : Drops p (db table.tree) (without_all (db table.tree) ids) = record {
        numbered = numbered_without_all ids (db table.tree) numbered;
        keeps = λ r there fails. not_gone ids (db table.tree) r there (λ id at.
            let answer = has_mapped (λ x. id_in (rowid x)) asked.0 id at in
            let match_ = has_mapped shows (filter p (db table.tree)) answer.0 (has_permuted asked.0 (map shows (filter p (db table.tree))) answer.0 (IsPermutation-sym (map shows (filter p (db table.tree))) asked.0 perm) answer.1) in
            let m = has_filtered p (db table.tree) match_.0 match_.1 in
            let id_is : id ≡ id_in (rowid match_.0) = answer.2 ∙ ap (λ x. id_in (rowid x)) match_.2 in
            elim (cases_Bool (has_rowid id r)) [
              | inl own ↦ absurd (
                  let tie : rowid r ≡ rowid match_.0 = rowid_is (db table.tree) r id numbered there own ∙ ap Int id_is ∙ sym (numbered_has (db table.tree) match_.0 numbered m.0) in
                  true≢false (sym m.1 ∙ ap p (sym (distinct (db table.tree) r match_.0 numbered there m.0 tie)) ∙ fails))
              | inr apart ↦ apart
            ]);
        only = λ r at.
            let there = without_all_has ids (db table.tree) r at in (
              there,
              elim (cases_Bool (p r)) [
                | inl passes ↦ absurd (
                    let answer = has_permuted (map shows (filter p (db table.tree))) asked.0 (shows r) perm (mapped_has shows (filter p (db table.tree)) r (has_kept p (db table.tree) r there passes)) in
                    let gone = gone_not ids (db table.tree) r (id_in (rowid r)) at (mapped_has (λ x. id_in (rowid x)) asked.0 (shows r) answer) in
                    let own : has_rowid (id_in (rowid r)) r ≡ true = rw (numbered_has (db table.tree) r numbered there, tied_itself value_cmp_total) refl in
                    true≢false (sym own ∙ gone))
                | inr fails ↦ fails
              ],
            );
      } in (
        subst (λ (t : Trees). Drops p (db table.tree) (t table.tree)) (sym trees) (subst (Drops p (db table.tree)) (sym is) drops),
        subst (OthersStay schema table.tree db) (sym trees) a.tables,
      )
