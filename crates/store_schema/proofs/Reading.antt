-- What a SELECT of all rows of a table gives.
use Rattle.std.proofs.Common.{◌≡◌, ◌≢◌, ℕ, zero, suc, ◌+◌, ◌-◌, ◌<◌, ◌≤◌, le_refl, ne_eqb, ◌^◌, add-one, arith, List, [], ◌∷◌, map, filter, length, drop, drop-drop, Option, true, false, not, ◌||◌, refl, sym, ap, ap₂, subst, ◌∙◌, inl, inr, None, Some, nat_le}
use Rattle.std.specs.List.{AllByRecursion, range_with_len}
use Rattle.std.specs.List.Sorted.{IsPermutation, IsSorted}
use Rattle.std.proofs.lemmas.Bool.{and_parts, true≢false}
use Rattle.std.proofs.lemmas.List.Sorted.{IsPermutation-sym}
use Rattle.sqlite.specs.Effect.{Database, IsDatabase}
use Rattle.sqlite.specs.Listing.{understood, reads_listing}
use Rattle.sqlite.specs.Ops.{is_null}
use Rattle.sqlite.specs.Order.{Row, column, value_cmp}
use Rattle.sqlite.specs.Schema.{Schema}
use Rattle.sqlite.specs.State.{State, Shown}
use Rattle.sqlite.specs.Tree.{rowid, IsAscending}
use Rattle.sqlite.specs.Term.{col, eval_all}
use Rattle.sqlite.specs.declared.types.Value.{Value}
use Rattle.sqlite.specs.declared.types.Value.TheVariants.{Null, Int, Real, Text, Blob}
use Rattle.sqlite.proofs.Callers.{IsPlain, command_of, reads_as}
use Rattle.sqlite_rules.specs.Lists.{Has}
use Rattle.sqlite_rules.proofs.ListLemmas.{all_from, all_has}
use Rattle.sqlite_rules.proofs.RuleLemmas.{keeps_at}
use Rattle.sqlite_schema.specs.Names.{is_key}
use Rattle.sqlite_schema.specs.Rules.{are_typed, are_present}
use Rattle.sqlite_schema.specs.declared.schema.Column.{Column}
use Rattle.sqlite_schema.specs.declared.schema.Constraint.TheVariants.{Datatype, NotNull}
use Rattle.sqlite_trees.specs.View.{is_int}
use Rattle.sqlite_trees.proofs.ListLemmas.{along_permutation}
use Rattle.store_schema.specs.Commands.{select, select_by_rowid, by_rowid}
use Rattle.store_schema.specs.Rows.{AreNumbered, shown_row, shown_by_rowid}
use Rattle.store_schema.specs.Stored.{Holds, HoldsByRowid}
use Rattle.store_schema.specs.Tables.{placed, placed_by_rowid}
use Rattle.store_schema.proofs.Keys.{behind}
use Rattle.store_schema.proofs.Queries.{answered, answered_in_order, has_permuted}

-- ---- rows in another order

abbrev Apart : List Row → Type 0
Apart rows = IsAscending (λ a b. rowid a ≢ rowid b) rows

-- those of the second list are of the first, and stay apart
abbrev StayApart : List Row → List Row → Type 0
StayApart xs ys = ((r : Row) → Has ys r → Has xs r) × (Apart xs → Apart ys)

stay_apart : (xs ys : List Row) → IsPermutation xs ys → StayApart xs ys
stay_apart = along_permutation StayApart
    (λ xs. (λ r there. there, λ apart. apart))
    (λ x xs ys h. (
      λ r there. elim there [ inl own ↦ inl own | inr later ↦ inr (h.0 r later) ],
      λ apart. (all_from (λ y. rowid x ≢ rowid y) ys (λ y at. all_has (λ z. rowid x ≢ rowid z) xs y apart.0 (h.0 y at)), h.1 apart.1),
    ))
    (λ x y xs. (
      λ r there. elim there [ inl own ↦ inr (inl own) | inr later ↦ elim later [ inl own ↦ inl own | inr more ↦ inr (inr more) ] ],
      λ apart. ((λ same. apart.0.0 (sym same), apart.1.0), (apart.0.1, apart.1.1)),
    ))
    (λ xs ys zs h k. (λ r there. h.0 r (k.0 r there), λ apart. k.1 (h.1 apart)))

pub numbered_permuted : (xs ys : List Row) → IsPermutation xs ys → AreNumbered xs → AreNumbered ys
numbered_permuted xs ys same h =
    let stay = stay_apart xs ys same in
    (stay.1 h.0, all_from (λ r. is_int (rowid r) ≡ true) ys (λ r at. all_has (λ x. is_int (rowid x) ≡ true) xs r h.1 (stay.0 r at)))

-- values that stand as rows stand as the same rows in another order
pub holds_permuted : {X : Type 0} (row : X → Row) (before after : List Row) (xs : List X) → IsPermutation before after → Holds row before xs → Holds row after xs
holds_permuted row before after xs same h = record {
  numbered = numbered_permuted before after same h.numbered;
  sound = λ r at. h.sound r (has_permuted after before r (IsPermutation-sym before after same) at);
  complete = λ x at. let it = h.complete x at in (it.0, has_permuted before after it.0 same it.1, it.2);
}

pub holds_permuted_by_rowid : {X : Type 0} (row : X → Row) (before after : List Row) (xs : List X) → IsPermutation before after → HoldsByRowid row before xs → HoldsByRowid row after xs
holds_permuted_by_rowid row before after xs same h = record {
  numbered = numbered_permuted before after same h.numbered;
  sound = λ r at. h.sound r (has_permuted after before r (IsPermutation-sym before after same) at);
  complete = λ x at. has_permuted before after (row x) same (h.complete x at);
}

-- ---- rows are as wide as their table

column_dropped : (n : ℕ) (r : Row) → column r n ≡ column (drop n r) 0
column_dropped zero r = refl
column_dropped (suc n) [] = refl
column_dropped (suc n) (x ∷ r) = column_dropped n r

-- a row of a value for each column, none of which is NULL, has no fewer and no more
typed_width : (rowid_column : Option ℕ) (at : ℕ) (columns : List Column) (row values : Row) → drop (at + 1) row ≡ values → ((n : ℕ) → at ≤ n → is_key rowid_column n ≡ false) → AllByRecursion (λ c. c.not_null ≡ true) columns
    → are_typed rowid_column at columns values ≡ true → are_present rowid_column at columns row ≡ true → length values ≡ length columns
typed_width rowid_column at [] row [] is other all typed present = refl
typed_width rowid_column at [] row (v ∷ values) is other all typed present = absurd (true≢false (sym typed))
typed_width rowid_column at (c ∷ columns) row [] is other all typed present =
    let none : column row (at + 1) ≡ Null = column_dropped (at + 1) row ∙ ap (λ l. column l 0) is in
    let first : (is_key rowid_column at || not c.not_null || not (is_null (column row (at + 1)))) ≡ true = (and_parts _ _ present).0 in
    let null : (is_key rowid_column at || not c.not_null || not (is_null (column row (at + 1)))) ≡ false = rw (other at (le_refl at), all.0, none) refl in
    absurd (true≢false (sym first ∙ null))
typed_width rowid_column at (c ∷ columns) row (v ∷ values) is other all typed present =
    let next : drop (at + 1 + 1) row ≡ values = ap (λ n. drop n row) (omega arith) ∙ sym (drop-drop 1 (at + 1) row) ∙ ap (drop 1) is in
    ap suc (typed_width rowid_column (at + 1) columns row values next (λ n more. other n (omega (arith, more))) all.1 (and_parts _ _ typed).1 (and_parts _ _ present).1)

-- each row of a sound database has its rowid and a value for each column
pub row_width : (db : Database) → IsDatabase db → (name : List ℕ) (columns : List Column) (key tree : ℕ) → Has db.schema.tables (placed name columns key tree) → AllByRecursion (λ c. c.not_null ≡ true) columns → 0 < length columns
    → (r : Row) → Has (db.trees tree) r → length r ≡ length columns + 1
row_width db sound name columns key tree listed all wide r there =
    let t = placed name columns key tree in
    let typed = keeps_at Datatype db.schema db.trees t r (sound.obeys.rules Datatype) listed there in
    let present = keeps_at NotNull db.schema db.trees t r (sound.obeys.rules NotNull) listed there in
    long r (typed_width None 0 columns r (drop 1 r) refl (λ n more. refl) all (and_parts _ _ typed).0 present)
  where
    long : (r : Row) → length (drop 1 r) ≡ length columns → length r ≡ length columns + 1
    long [] h = absurd (omega (arith, h, wide))
    long (id ∷ r) h = ap suc h ∙ sym (add-one (length columns))

-- the same where the first column is the rowid
pub row_width_by_rowid : (db : Database) → IsDatabase db → (name : List ℕ) (first : Column) (columns : List Column) (tree : ℕ) → Has db.schema.tables (placed_by_rowid name (first ∷ columns) tree) → AllByRecursion (λ c. c.not_null ≡ true) columns
    → 0 < length columns → (r : Row) → Has (db.trees tree) r → length r ≡ length columns + 2
row_width_by_rowid db sound name first columns tree listed all wide r there =
    let t = placed_by_rowid name (first ∷ columns) tree in
    let typed = keeps_at Datatype db.schema db.trees t r (sound.obeys.rules Datatype) listed there in
    let present = keeps_at NotNull db.schema db.trees t r (sound.obeys.rules NotNull) listed there in
    long r (and_parts _ _ typed).0 present
  where
    later : (n : ℕ) → 1 ≤ n → is_key (Some 0) n ≡ false
    later n h = ne_eqb 0 n (λ e. omega (arith, e, h))

    long : (r : Row) → are_typed (Some 0) 0 (first ∷ columns) (drop 1 r) ≡ true → are_present (Some 0) 0 (first ∷ columns) r ≡ true → length r ≡ length columns + 2
    long [] typed present = absurd (omega (arith, typed_width (Some 0) 1 columns [] [] refl later all (and_parts _ _ typed).1 present, wide))
    long (id ∷ []) typed present = absurd (omega (arith, typed_width (Some 0) 1 columns (id ∷ []) [] refl later all (and_parts _ _ typed).1 present, wide))
    long (id ∷ x ∷ values) typed present = let h = typed_width (Some 0) 1 columns (id ∷ x ∷ values) values refl later all (and_parts _ _ typed).1 present in omega (arith, h)

-- ---- what is read

pub shown_behind : (x : Value) (r : Row) (at count : ℕ) → map (column (x ∷ r)) (range_with_len (at + 1) count) ≡ map (column r) (range_with_len at count)
shown_behind x r at zero = refl
shown_behind x r at (suc count) = ap₂ (λ v l. v ∷ l) (behind x r at) (shown_behind x r (at + 1) count)

-- a row of so many columns is shown as it is
pub shown_whole : (r : Row) → shown_row (length r) r ≡ r
shown_whole [] = refl
shown_whole (x ∷ r) = ap (λ l. x ∷ l) (shown_behind x r 0 (length r) ∙ shown_whole r)

all_shown : (width : ℕ) (rows : List Row) → ((r : Row) → Has rows r → length r ≡ width) → map (shown_row width) rows ≡ rows
all_shown width [] wide = refl
all_shown width (r ∷ rows) wide = ap₂ (λ x l. x ∷ l) (ap (λ n. shown_row n r) (sym (wide r (inl refl))) ∙ shown_whole r) (all_shown width rows (λ x there. wide x (inr there)))

filter_all : {X : Type 0} (xs : List X) → filter (λ x. true) xs ≡ xs
filter_all [] = refl
filter_all (x ∷ xs) = ap (λ l. x ∷ l) (filter_all xs)

shown_terms : (r : Row) (places : List ℕ) → eval_all (map (col 1) places) ([] ∷ r ∷ []) ≡ map (column r) places
shown_terms r [] = refl
shown_terms r (p ∷ places) = ap (λ l. column r p ∷ l) (shown_terms r places)

map_same : (f g : Row → Row) (rows : List Row) → ((r : Row) → f r ≡ g r) → map f rows ≡ map g rows
map_same f g [] same = refl
map_same f g (r ∷ rows) same = ap₂ (λ x l. x ∷ l) (same r) (map_same f g rows same)

-- the rows that are read are those of the table, each once
pub rows_read : (schema : Schema) (sql : List ℕ) (tree : ℕ) (names : List (List ℕ)) → nat_le (2 ^ 31) tree ≡ false → command_of (understood schema sql) ≡ select tree names → IsPlain (understood schema sql) → reads_listing schema sql ≡ false
    → (old new : State) (rows : List Row) → old.now.schema ≡ schema → ((r : Row) → Has (old.now.trees tree) r → length r ≡ length names) → Shown sql [] old new rows → IsPermutation (old.now.trees tree) rows
rows_read schema sql tree names low is is_plain unlisted old new rows has wide shown =
    let got = reads_as sql [] old new schema has (select tree names) is is_plain unlisted rows shown in
    let perm = answered old.now tree [] (map (col 1) (range_with_len 0 (length names))) by_rowid [] rows low got in
    let each : map (λ r. eval_all (map (col 1) (range_with_len 0 (length names))) ([] ∷ r ∷ [])) (filter (λ r. true) (old.now.trees tree)) ≡ old.now.trees tree =
    ap (map (λ r. eval_all (map (col 1) (range_with_len 0 (length names))) ([] ∷ r ∷ []))) (filter_all (old.now.trees tree))
    ∙ map_same _ (shown_row (length names)) (old.now.trees tree) (λ r. shown_terms r (range_with_len 0 (length names))) ∙ all_shown (length names) (old.now.trees tree) wide in
    subst (λ l. IsPermutation l rows) each perm

pub rows_read_by_rowid : (schema : Schema) (sql : List ℕ) (tree : ℕ) (names : List (List ℕ)) → nat_le (2 ^ 31) tree ≡ false → command_of (understood schema sql) ≡ select_by_rowid tree names → IsPlain (understood schema sql) → reads_listing schema sql ≡ false
    → (old new : State) (rows : List Row) → old.now.schema ≡ schema → Shown sql [] old new rows → IsPermutation (map (shown_by_rowid (length names)) (old.now.trees tree)) rows
rows_read_by_rowid schema sql tree names low is is_plain unlisted old new rows has shown =
    let terms = col 1 0 ∷ col 1 0 ∷ map (col 1) (range_with_len 2 (length names - 2)) in
    let got = reads_as sql [] old new schema has (select_by_rowid tree names) is is_plain unlisted rows shown in
    let perm = answered old.now tree [] terms by_rowid [] rows low got in
    let each : map (λ r. eval_all terms ([] ∷ r ∷ [])) (filter (λ r. true) (old.now.trees tree)) ≡ map (shown_by_rowid (length names)) (old.now.trees tree) =
    ap (map (λ r. eval_all terms ([] ∷ r ∷ []))) (filter_all (old.now.trees tree))
    ∙ map_same (λ r. eval_all terms ([] ∷ r ∷ [])) (shown_by_rowid (length names)) (old.now.trees tree) (λ r. ap (λ l. rowid r ∷ rowid r ∷ l) (shown_terms r (range_with_len 2 (length names - 2)))) in
    subst (λ l. IsPermutation l rows) each perm

-- the rowids don't fall
pub rows_rise : (schema : Schema) (sql : List ℕ) (tree : ℕ) (first : List ℕ) (others : List (List ℕ)) → command_of (understood schema sql) ≡ select tree (first ∷ others) → IsPlain (understood schema sql) → reads_listing schema sql ≡ false
    → (old new : State) (rows : List Row) → old.now.schema ≡ schema → Shown sql [] old new rows → IsSorted (λ a b. value_cmp (rowid a) (rowid b)) rows
rows_rise schema sql tree first others is is_plain unlisted old new rows has shown =
    answered_in_order old.now tree [] (map (col 1) (range_with_len 1 (length others))) [] rows (reads_as sql [] old new schema has (select tree (first ∷ others)) is is_plain unlisted rows shown)

null_is : (v : Value) → is_null v ≡ true → v ≡ Null
null_is Null h = refl
null_is (Int n) h = absurd (true≢false (sym h))
null_is (Real x) h = absurd (true≢false (sym h))
null_is (Text s) h = absurd (true≢false (sym h))
null_is (Blob b) h = absurd (true≢false (sym h))

-- where the first column is the rowid, NULL stands in its place
pub null_in_place : (db : Database) → IsDatabase db → (name : List ℕ) (first : Column) (columns : List Column) (tree : ℕ) → Has db.schema.tables (placed_by_rowid name (first ∷ columns) tree) → (r : Row) → Has (db.trees tree) r → column r 1 ≡ Null
null_in_place db sound name first columns tree listed r there =
    let t = placed_by_rowid name (first ∷ columns) tree in
    in_place r (and_parts _ _ (keeps_at Datatype db.schema db.trees t r (sound.obeys.rules Datatype) listed there)).0
  where
    in_place : (r : Row) → are_typed (Some 0) 0 (first ∷ columns) (drop 1 r) ≡ true → column r 1 ≡ Null
    in_place [] typed = refl
    in_place (id ∷ []) typed = refl
    in_place (id ∷ x ∷ values) typed = null_is x (and_parts _ _ typed).0
