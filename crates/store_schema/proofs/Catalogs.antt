-- The trees of a database list one schema.
use Rattle.std.proofs.Common.{◌≡◌, ℕ, pos, List, [], ◌∷◌, ◌+◌, codes, true, false, filter, refl, sym, ap, ap₂, subst, ◌∙◌, inl, inr, Some, Ok, Result, slice_get, arith}
use Rattle.std.specs.List.{AllZip}
use Rattle.std.proofs.lemmas.Fmt.{decimal_injective}
use Rattle.std.proofs.lemmas.List.{append_cancel_left}
use Rattle.std.proofs.lemmas.Bool.{true≢false}
use Rattle.sqlite.specs.declared.types.Value.{Value}
use Rattle.sqlite.specs.declared.types.Value.TheVariants.{Null, Int, Real, Text, Blob}
use Rattle.sqlite.specs.Order.{Row, column}
use Rattle.sqlite.specs.Tree.{Trees, IsAscending}
use Rattle.sqlite.specs.Table.{Table}
use Rattle.sqlite.specs.Schema.{Schema}
use Rattle.sqlite.specs.Compile.{table_defined_by}
use Rattle.sqlite_schema.specs.declared.schema.Index.{Index}
use Rattle.sqlite_rules.specs.Lists.{Has}
use Rattle.sqlite_rules.proofs.ListLemmas.{all_has}
use Rattle.sqlite_schema.specs.Names.{same_name}
use Rattle.sqlite_catalog.proofs.StepLemmas.{same_itself}
use Rattle.sqlite_trees.specs.Objects.{catalog_tree}
use Rattle.sqlite_catalog.specs.Listing.{IsTableRow, IsIndexRow, IsViewRow, IsDefined, IsSound, automatic, is_table_row, is_index_row, is_view_row}

same_text : {s t : List ℕ} → ◌≡◌ {A = Value} (Text s) (Text t) → s ≡ t
same_text e = cc

same_ok : {B E : Type 0} {a b : B} → ◌≡◌ {A = Result B E} (Ok a) (Ok b) → a ≡ b
same_ok e = cc

same_tree : {m n : ℕ} → ◌≡◌ {A = Value} (Int (pos (m + 1))) (Int (pos (n + 1))) → m ≡ n
same_tree {m} {n} e = let z : pos (m + 1) ≡ pos (n + 1) = cc in let k : m + 1 ≡ n + 1 = cc in omega (arith, k)

zipped_same : {A B : Type 0} (R S : A → B → Type 0) (xs : List A) (ys zs : List B) → ((x : A) (y z : B) → R x y → S x z → y ≡ z) → AllZip R xs ys → AllZip S xs zs → ys ≡ zs
zipped_same R S [] [] [] one h k = refl
zipped_same R S [] [] (z ∷ zs) one h k = absurd k
zipped_same R S [] (y ∷ ys) zs one h k = absurd h
zipped_same R S (x ∷ xs) [] zs one h k = absurd h
zipped_same R S (x ∷ xs) (y ∷ ys) [] one h k = absurd k
zipped_same R S (x ∷ xs) (y ∷ ys) (z ∷ zs) one h k = ap₂ (λ a l. a ∷ l) (one x y z h.0 k.0) (zipped_same R S xs ys zs one h.1 k.1)

table_of : (row : Row) (s t : Table) → IsTableRow row s → IsTableRow row t → s ≡ t
table_of row s t h k =
    let sql = same_text (sym h.sql_is ∙ k.sql_is) in
    let tree = same_tree (sym h.described.id ∙ k.described.id) in
    let made = same_ok (sym h.defined.1 ∙ ap table_defined_by sql ∙ k.defined.1) in
    h.defined.2 ∙ ap₂ (λ (m : Table) n. record m { tree = n }) made tree ∙ sym k.defined.2

-- tables whose names differ are one where those are the same
one_named : (tables : List Table) (s t : Table) → IsAscending (λ a b. same_name a.name b.name ≡ false) tables → ((name : List ℕ) → same_name name name ≡ true) → Has tables s → Has tables t → s.name ≡ t.name → s ≡ t
one_named [] s t apart own h k same = absurd h
one_named (u ∷ tables) s t apart own (inl h) (inl k) same = h ∙ sym k
one_named (u ∷ tables) s t apart own (inl h) (inr k) same =
    absurd (true≢false (sym (own u.name) ∙ ap (same_name u.name) (ap (λ (x : Table). x.name) (sym h) ∙ same) ∙ all_has _ tables t apart.0 k))
one_named (u ∷ tables) s t apart own (inr h) (inl k) same =
    absurd (true≢false (sym (own u.name) ∙ ap (same_name u.name) (ap (λ (x : Table). x.name) (sym k) ∙ sym same) ∙ all_has _ tables s apart.0 h))
one_named (u ∷ tables) s t apart own (inr h) (inr k) same = one_named tables s t apart.1 own h k same

index_in : (table : Table) (v : Value) (i j : Index) → i.name ≡ j.name → i.tree ≡ j.tree → IsDefined table i v → IsDefined table j v → i ≡ j
index_in table Null i j name tree h k =
    let names = sym (ap (λ (x : Index). x.name) h.3) ∙ name ∙ ap (λ (x : Index). x.name) k.3 in
    let digits = append_cancel_left (codes "_") _ _ (append_cancel_left table.name _ _ (append_cancel_left (codes "sqlite_autoindex_") _ _ names)) in
    let places : h.0 + 1 ≡ k.0 + 1 = decimal_injective (h.0 + 1) (k.0 + 1) (omega (arith, h.4)) (omega (arith, k.4)) digits in
    let at : h.0 ≡ k.0 = omega (arith, places) in
    let some : Some h.1 ≡ Some k.1 = sym h.2 ∙ ap (slice_get table.uniques) at ∙ k.2 in
    let key : h.1 ≡ k.1 = cc in
    h.3 ∙ (λ n. automatic table (at n) (key n) (tree n)) ∙ sym k.3
index_in table (Int n) i j name tree h k = absurd h
index_in table (Real x) i j name tree h k = absurd h
index_in table (Text sql) i j name tree h k = h.2 ∙ (λ n. record (same_ok (sym h.1 ∙ k.1) n) { tree = tree n; table = table.tree }) ∙ sym k.2
index_in table (Blob b) i j name tree h k = absurd h

index_of : (tables : List Table) → IsAscending (λ a b. same_name a.name b.name ≡ false) tables → ((name : List ℕ) → same_name name name ≡ true) → (row : Row) (i j : Index) → IsIndexRow tables row i → IsIndexRow tables row j → i ≡ j
index_of tables apart own row i j h k =
    let owner = same_text (sym h.described.owner_is ∙ k.described.owner_is) in
    let table = one_named tables h.table k.table apart own h.listed k.listed owner in
    index_in k.table (column row 4) i j (same_text (sym h.described.name_is ∙ k.described.name_is)) (same_tree (sym h.described.id ∙ k.described.id)) (subst (λ t. IsDefined t i (column row 4)) table h.defined) k.defined

none_zipped : {A B C : Type 0} (R : A → B → Type 0) (S : A → C → Type 0) (xs : List A) (zs : List C) → AllZip R xs [] → AllZip S xs zs → zs ≡ []
none_zipped R S [] [] h k = refl
none_zipped R S [] (z ∷ zs) h k = absurd k
none_zipped R S (x ∷ xs) zs h k = absurd h

-- trees that list a schema with no views list no other
pub one_schema : (db : Trees) (a b : Schema) → a.views ≡ [] → IsSound a db → IsSound b db → a ≡ b
one_schema db a b bare h k =
    let objects = db catalog_tree in
    let p = h.lists.listed in
    let q = k.lists.listed in
    let tables : a.tables ≡ b.tables = zipped_same IsTableRow IsTableRow (filter is_table_row objects) a.tables b.tables table_of p.tables q.tables in
    let indexes : a.indexes ≡ b.indexes =
    zipped_same (IsIndexRow a.tables) (IsIndexRow a.tables) (filter is_index_row objects) a.indexes b.indexes (index_of a.tables p.named same_itself) p.indexes (subst (λ l. AllZip (IsIndexRow l) (filter is_index_row objects) b.indexes) (sym tables) q.indexes) in
    let none : b.views ≡ [] = none_zipped IsViewRow IsViewRow (filter is_view_row objects) b.views (subst (AllZip IsViewRow (filter is_view_row objects)) bare p.views) q.views in
    λ n. record { tables = tables n; indexes = indexes n; views = (bare ∙ sym none) n }
