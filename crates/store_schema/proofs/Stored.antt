-- The values that a table holds after each text.
use Rattle.std.proofs.Common.{◌≡◌, ◌↔◌, ℕ, ℤ, List, [], ◌∷◌, ◌++◌, ◌||◌, length, drop, take, take-append-drop, Bool, true, false, not, cond, refl, sym, ap, subst, ◌∙◌, inl, inr, Some, Ok, slice_get}
use Rattle.std.specs.List.{list_all}
use Rattle.std.proofs.lemmas.Bool.{cases_Bool, true≢false}
use Rattle.sqlite.specs.Cast.{cast}
use Rattle.sqlite.specs.Kind.TheVariants as kind
use Rattle.sqlite.specs.Listing.{understood}
use Rattle.sqlite.specs.Ops.{unary}
use Rattle.sqlite.specs.Order.{Row, column}
use Rattle.sqlite.specs.Rows.{shown}
use Rattle.sqlite.specs.Schema.{Schema}
use Rattle.sqlite.specs.State.{State, Executes}
use Rattle.sqlite.specs.Term.{eval_all, holds}
use Rattle.sqlite.specs.Tree.{rowid}
use Rattle.sqlite.specs.declared.types.Value.{Value}
use Rattle.sqlite.specs.declared.types.Value.TheVariants.{Null, Int}
use Rattle.sqlite.proofs.Callers.{IsPlain, command_of}
use Rattle.sqlite_rules.specs.Lists.{Has}
use Rattle.sqlite_rules.proofs.ListLemmas.{has_filtered, has_kept}
use Rattle.sqlite_schema.specs.declared.schema.Column.{Column}
use Rattle.sqlite_schema.specs.declared.schema.Keys.TheVariants.{Enforced}
use Rattle.store_schema.specs.Commands.{upsert, insert_or_pass, delete, update_terms, key_terms}
use Rattle.store_schema.specs.Rows.{same_key, Puts, Passes, Drops, Leaves}
use Rattle.store_schema.specs.Stored.{Holds, without_key, with_value, BeginsExactly, AreRowsOf}
use Rattle.store_schema.specs.Tables.{placed}
use Rattle.store_schema.proofs.Keys.{same_key_behind, deletes_by_key, begin_alike, one_key}
use Rattle.store_schema.proofs.Rowids.{numbered_has}
use Rattle.store_schema.proofs.Statements.{Takes, upserts, passes, drops}
use Rattle.store_schema.proofs.Writes.{Fits, not_is}

pub or_no : (b : Bool) → (b || false) ≡ b
or_no true = refl
or_no false = refl

either : (b : Bool) (x : Value) → cond b x x ≡ x
either true x = refl
either false x = refl

-- NULL stands where the rowid is the first column
pub cast_null : cast kind.Integer Null ≡ Null
unfolding unary
cast_null = either _ Null

-- an integer is stored as it is
pub cast_int : (n : ℤ) → cast kind.Integer (Int n) ≡ Int n
unfolding unary
cast_int n = either _ (Int n)

-- a stored row, by its rowid and what stands behind it
split : (r v : Row) (n : ℤ) → rowid r ≡ Int n → drop 1 r ≡ v → r ≡ rowid r ∷ v
split [] v n p h = absurd (let e = p in cc)
split (id ∷ r) v n p h = ap (λ l. id ∷ l) h

module _ {X : Type 0} (key : ℕ) (row : X → Row) where
  -- the row of a value is the one that is stored for it
  stored : (rows : List Row) (xs : List X) → Holds row rows xs → (r : Row) → Has rows r → (x : X) → drop 1 r ≡ row x → r ≡ rowid r ∷ row x
  stored rows xs h r there x is = split r (row x) _ (numbered_has rows r h.numbered there) is

  -- the key of a stored row is that of its value
  keyed : (rows : List Row) (xs : List X) → Holds row rows xs → (r : Row) → Has rows r → (x : X) → drop 1 r ≡ row x → (k : Row) → same_key key r (Null ∷ k) ≡ same_key key (Null ∷ row x) (Null ∷ k)
  keyed rows xs h r there x is k = ap (λ l. same_key key l (Null ∷ k)) (stored rows xs h r there x is) ∙ same_key_behind key (rowid r) Null Null Null (row x) k

  -- the value is put in
  holds_put : (before after : List Row) (x : X) (xs : List X) → Holds row before xs → Puts key (row x) before after → Holds row after (with_value key row x xs)
  holds_put before after x xs h p = record {
    numbered = p.numbered;
    sound = λ r there. elim (p.only r there) [
      | inl own ↦ (x, inl refl, ap (drop 1) own.1)
      | inr was ↦
          let it = h.sound r was.0 in
          (it.0, inr (has_kept (λ y. not (same_key key (Null ∷ row y) (Null ∷ row x))) xs it.0 it.1 (ap not (sym (keyed before xs h r was.0 it.0 it.2 (row x)) ∙ was.1))), it.2)
    ];
    complete = λ y at. elim at [
      | inl same ↦ (Int p.adds.0 ∷ row x, p.adds.1, ap row (sym same))
      | inr later ↦
          let old = has_filtered (λ z. not (same_key key (Null ∷ row z) (Null ∷ row x))) xs y later in
          let it = h.complete y old.0 in
          (it.0, p.keeps it.0 it.1 (keyed before xs h it.0 it.1 y it.2 (row x) ∙ not_is _ old.1), it.2)
    ];
  }

  -- it is put in, or is there; a row is its key
  holds_pass : (whole : (x y : X) → same_key key (Null ∷ row x) (Null ∷ row y) ≡ true → row x ≡ row y) (before after : List Row) (x : X) (xs : List X) → Holds row before xs → Passes key (row x) before after
      → Holds row after (with_value key row x xs)
  holds_pass whole before after x xs h (inl put) = holds_put before after x xs h put
  holds_pass whole before after x xs h (inr there) =
      let r = there.1 in
      let one = h.sound r there.2 in
      let same : row one.0 ≡ row x = whole one.0 x (sym (keyed before xs h r there.2 one.0 one.2 (row x)) ∙ there.3) in
      let old : Holds row before (with_value key row x xs) = record {
        numbered = h.numbered;
        sound = λ q at.
            let it = h.sound q at in elim (cases_Bool (same_key key (Null ∷ row it.0) (Null ∷ row x))) [
              | inl alike ↦ (x, inl refl, it.2 ∙ whole it.0 x alike)
              | inr other ↦ (it.0, inr (has_kept (λ y. not (same_key key (Null ∷ row y) (Null ∷ row x))) xs it.0 it.1 (ap not other)), it.2)
            ];
        complete = λ y at. elim at [
          | inl own ↦ (r, there.2, one.2 ∙ same ∙ ap row (sym own))
          | inr later ↦ h.complete y (has_filtered (λ z. not (same_key key (Null ∷ row z) (Null ∷ row x))) xs y later).0
        ];
      } in
      subst (λ rows. Holds row rows (with_value key row x xs)) (sym there.0) old

  -- those of the key are gone
  holds_drop : (before after : List Row) (k : Row) (xs : List X) → Holds row before xs → Drops (λ r. list_all (holds (k ∷ r ∷ [])) (key_terms 0 key)) before after → Holds row after (without_key key row k xs)
  holds_drop before after k xs h p =
      let test = λ (r : Row) (there : Has before r) (y : X) (is : drop 1 r ≡ row y).
      ap (λ l. list_all (holds (k ∷ l ∷ [])) (key_terms 0 key)) (stored before xs h r there y is) ∙ deletes_by_key key k (rowid r) (row y) in
      record {
        numbered = p.numbered;
        sound = λ r there.
            let was = p.only r there in
            let it = h.sound r was.0 in (it.0, has_kept (λ y. not (same_key key (Null ∷ row y) (Null ∷ k))) xs it.0 it.1 (ap not (sym (test r was.0 it.0 it.2) ∙ was.1)), it.2);
        complete = λ y at.
            let old = has_filtered (λ z. not (same_key key (Null ∷ row z) (Null ∷ k))) xs y at in
            let it = h.complete y old.0 in (it.0, p.keeps it.0 it.1 (test it.0 it.1 y it.2 ∙ not_is _ old.1), it.2);
      }

  -- what is left besides a key, by the first columns
  pub without_key_has : (k : Row) (xs : List X) (y : X) → BeginsExactly key k → BeginsExactly key (row y) → Has (without_key key row k xs) y ↔ (Has xs y × (take key (row y) ≡ take key k → ⊥))
  without_key_has k xs y p q = (
    λ at. let it = has_filtered (λ z. not (same_key key (Null ∷ row z) (Null ∷ k))) xs y at in (it.0, λ same. true≢false (sym (one_key key Null Null (row y) k q p same) ∙ not_is _ it.1)),
    λ at. has_kept (λ z. not (same_key key (Null ∷ row z) (Null ∷ k))) xs y at.0 (elim (cases_Bool (same_key key (Null ∷ row y) (Null ∷ k))) [
      | inl same ↦ absurd (at.1 (begin_alike key Null Null (row y) k q p same))
      | inr other ↦ ap not other
    ]),
  )

module _ (schema : Schema) (name : List ℕ) (columns : List Column) (key tree at : ℕ) (fits : Fits schema Enforced (placed name columns key tree) key) (listed : slice_get schema.tables at ≡ Some (placed name columns key tree))
    {X : Type 0} (row : X → Row) (are : AreRowsOf name columns key tree row) (sql : List ℕ) (plain : IsPlain (understood schema sql)) where
  takes : (x : X) → Takes name columns key tree (row x)
  takes x = record { source = are.inserted x; fresh = λ i. cast_null i ∷ are.cast x i; stays = λ n i. cast_int n i ∷ are.cast x i }

  -- the row of one key that is there takes the other columns of the new one
  updates : (rows : List Row) (xs : List X) → Holds row rows xs → (x : X) (id : ℤ) (r : Row) → same_key key r (Null ∷ row x) ≡ true → Has rows r
      → (column (row x ++ rowid r ∷ shown (placed name columns key tree) (Int id ∷ row x)) (length columns) ≡ rowid r)
      × (eval_all (update_terms (length columns) key) ((row x ++ rowid r ∷ shown (placed name columns key tree) (Int id ∷ row x)) ∷ r ∷ []) ≡ rowid r ∷ rowid r ∷ row x)
  updates rows xs h x id r same there =
      let it = h.sound r there in
      let is = stored key row rows xs h r there it.0 it.2 in
      let begins = begin_alike key Null Null (row it.0) (row x) (are.exact it.0) (are.exact x) (sym (keyed key row rows xs h r there it.0 it.2 (row x)) ∙ same) in (
        are.found x (rowid r) _,
        ap (λ l. eval_all (update_terms (length columns) key) ((row x ++ rowid r ∷ shown (placed name columns key tree) (Int id ∷ row x)) ∷ l ∷ [])) is
            ∙ are.updated x it.0 (rowid r) id ∙ ap (λ k. rowid r ∷ rowid r ∷ k ++ drop key (row x)) begins ∙ ap (λ l. rowid r ∷ rowid r ∷ l) (take-append-drop key (row x)),
      )

  -- INSERT, with ON CONFLICT DO UPDATE
  pub value_put : command_of (understood schema sql) ≡ upsert at tree (length columns) key → (old new : State) (x : X) (xs : List X) (count : ℕ) → old.now.schema ≡ schema → Holds row (old.now.trees tree) xs
      → Executes sql (row x) old new (Ok count) → Holds row (new.now.trees tree) (with_value key row x xs) × Leaves schema tree old.now new.now
  value_put is old new x xs count has h ran =
      let put = upserts schema name columns key tree at fits listed sql (row x) old new has plain count h.numbered is (takes x) (updates (old.now.trees tree) xs h x) ran in
      (holds_put key row (old.now.trees tree) (new.now.trees tree) x xs h put.0, put.1)

  -- INSERT, with ON CONFLICT DO NOTHING, where a row is its key
  pub value_passed : command_of (understood schema sql) ≡ insert_or_pass at (length columns) key → ((x y : X) → take key (row x) ≡ take key (row y) → row x ≡ row y)
      → (old new : State) (x : X) (xs : List X) (count : ℕ) → old.now.schema ≡ schema → Holds row (old.now.trees tree) xs
      → Executes sql (row x) old new (Ok count) → Holds row (new.now.trees tree) (with_value key row x xs) × Leaves schema tree old.now new.now
  value_passed is whole old new x xs count has h ran =
      let put = passes schema name columns key tree at fits listed sql (row x) old new has plain count h.numbered is (takes x) ran in
      (holds_pass key row (λ a b same. whole a b (begin_alike key Null Null (row a) (row b) (are.exact a) (are.exact b) same)) (old.now.trees tree) (new.now.trees tree) x xs h put.0, put.1)

  -- DELETE by the key
  pub value_dropped : command_of (understood schema sql) ≡ delete at tree key → (old new : State) (k : Row) (xs : List X) (count : ℕ) → old.now.schema ≡ schema → Holds row (old.now.trees tree) xs
      → Executes sql k old new (Ok count) → Holds row (new.now.trees tree) (without_key key row k xs) × Leaves schema tree old.now new.now
  value_dropped is old new k xs count has h ran =
      let gone = drops schema name columns key tree at fits listed sql k old new has plain count h.numbered is ran in
      (holds_drop key row (old.now.trees tree) (new.now.trees tree) k xs h gone.0, gone.1)
