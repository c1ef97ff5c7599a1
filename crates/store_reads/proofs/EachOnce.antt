-- No row of a plan stands twice in its table, and no tracker has two receipts, since the key of a table is unique.
use Rattle.std.proofs.Common.{◌≡◌, ◌≢◌, ◌&&◌, ℕ, zero, suc, not, true, List, [], ◌∷◌, ◌++◌, drop, get_or, map, take, refl, sym, ap, subst, ◌∙◌, inl, inr, arith, Option}
use Rattle.std.specs.List.{range_with_len, AllByRecursion, AllPairs, AllZip}
use Rattle.std.proofs.lemmas.Bool.{cases_Bool, true≢false}
use Rattle.std.proofs.lemmas.List.Elements.{Contains-get_or}
use Rattle.sqlite.specs.Effect.{Database, IsDatabase}
use Rattle.sqlite.specs.Order.{Row, column}
use Rattle.sqlite.specs.Schema.{Schema}
use Rattle.sqlite.specs.Table.{Table as SqlTable}
use Rattle.sqlite.specs.Tree.{Trees, rowid, has_rowid, IsAscending}
use Rattle.sqlite.specs.declared.types.Value.TheVariants.{Int, Text}
use Rattle.sqlite_rules.specs.Edit.{id_in}
use Rattle.sqlite_rules.specs.Lists.{Has}
use Rattle.sqlite_rules.proofs.ListLemmas.{all_from, all_has, has_contained, has_left, some_from, test_has}
use Rattle.sqlite_rules.proofs.RuleLemmas.{keeps_at}
use Rattle.sqlite_schema.specs.Rules.{agree, clashes, differ, guards, Keeps}
use Rattle.sqlite_schema.specs.declared.schema.Constraint.TheVariants.{Unique}
use Rattle.sqlite_schema.specs.declared.schema.Index.{Index}
use Rattle.sqlite_value.specs.Keys.{plain}
use Rattle.store_schema.specs.Rows.{AreNumbered, same_key, shown_by_rowid}
use Rattle.store_schema.specs.Stored.{BeginsExactly}
use Rattle.store_schema.specs.Tables.{placed}
use Rattle.store_schema.proofs.Keys.{one_key}
use Rattle.store_schema.proofs.Queries.{has_mapped}
use Rattle.store_schema.proofs.Rowids.{differs, numbered_has, rowid_is}
use Rattle.plan_records.specs.declared.PlanRow.{PlanRow}
use Rattle.store_schema.specs.Schema.{schema_of, first_schema, desk_schema, workstation, interval, resource, occurrence, operation, dependency, need, receipt, quantity, amount}
use Rattle.store_schema.specs.StoredPlans.{receipt_row}
use Rattle.store_schema.specs.declared.texts.Version.{Version}
use Rattle.store_schema.specs.declared.texts.Version.TheVariants.{First, Second}
use Rattle.store_schema.specs.Receipts.{stored_receipt}
use Rattle.store_reads.specs.Receipts.{IsReceiptStoredAs}
use Rattle.store_reads.specs.Rows.{columns_of, IsStoredAs}
use Rattle.store_reads.specs.declared.decoding.Table.{Table}
use Rattle.store_reads.specs.declared.decoding.Table.TheVariants as table
use Rattle.store_reads.proofs.Decoded.{stored_for}
use Rattle.store_schema.specs.tracker_receipts.specs.Stored.{Columns}
use Rattle.store_reads.specs.Tables.{tables_of, receipt_rows, rows_of, AllDiffer, IsIn}
use Rattle.store_reads.proofs.PlanTables.{workstation_table, interval_table, resource_table, occurrence_table, operation_table, dependency_table, need_table, quantity_table, amount_table}
use Rattle.store_reads.proofs.TableHeld.{IsTableOf, value_of}

-- ---- two rows of one key are one

-- the schema keeps the key of a table in an index
abbrev HasKeyIndex : Schema → SqlTable → ℕ → Type 0
HasKeyIndex schema t key = (i : Index) × Has schema.indexes i × (guards i t ≡ true) × (i.order ≡ plain) × (i.columns ≡ range_with_len 1 key)

twin : (schema : Schema) (trees : Trees) (t : SqlTable) (key : ℕ) → Has schema.tables t → HasKeyIndex schema t key → Keeps Unique schema trees → AreNumbered (trees t.tree) → (a b : Row) → Has (trees t.tree) a → Has (trees t.tree) b → same_key key b a ≡ true
    → rowid a ≡ rowid b
twin schema trees t key listed index keeps numbered a b at_a at_b alike =
    let rows = trees t.tree in
    let id = id_in (rowid a) in
    let own : rowid a ≡ Int id = numbered_has rows a numbered at_a in
    elim (cases_Bool (has_rowid id b)) [
      | inl same ↦ own ∙ sym (rowid_is rows b id numbered at_b same)
      | inr other ↦
          let i = index.0 in
          let apart : differ (rowid b) (rowid a) ≡ true = ap (differ (rowid b)) own ∙ differs rows b id numbered at_b other in
          let here : agree i.order i.columns b i.columns a ≡ true = (λ k. agree (index.3 k) (index.4 k) b (index.4 k) a) ∙ alike in
          let clash : clashes i.order i.columns rows a ≡ true = some_from (λ r. agree i.order i.columns r i.columns a && differ (rowid r) (rowid a)) rows b at_b (λ k. here k && apart k) in
          let free = test_has (λ j. not (guards j t && clashes j.order j.columns rows a)) schema.indexes i (keeps_at Unique schema trees t a keeps listed at_a) index.1 in
          absurd (true≢false (sym free ∙ (λ k. not (index.2 k && clash k))))
    ]

-- a row is its rowid and what stands behind it
whole_row : (key : ℕ) (a v : Row) → BeginsExactly (suc key) v → drop 1 a ≡ v → a ≡ rowid a ∷ v
whole_row key [] v exact e = absurd (subst (BeginsExactly (suc key)) (sym e) exact)
whole_row key (x ∷ a) v exact e = ap (λ l. x ∷ l) e

begin_alike : (key : ℕ) (a b v w : Row) → BeginsExactly (suc key) v → BeginsExactly (suc key) w → drop 1 a ≡ v → drop 1 b ≡ w → take (suc key) w ≡ take (suc key) v → same_key (suc key) b a ≡ true
begin_alike key a b v w exact other p q same = (λ i. same_key (suc key) (whole_row key b w other q i) (whole_row key a v exact p i)) ∙ one_key (suc key) (rowid b) (rowid a) w v other exact same

alike_of : (key : ℕ) (a b v : Row) → BeginsExactly (suc key) v → drop 1 a ≡ v → drop 1 b ≡ v → same_key (suc key) b a ≡ true
alike_of key a b v exact p q = begin_alike key a b v v exact exact p q refl

-- ---- in each table

-- two rows of a table that are one row of a plan have one rowid
abbrev pub HoldsSingly : Table → Trees → Type 0
HoldsSingly t trees = (a b : Row) (r : PlanRow) → Has (rows_of t trees) a → Has (rows_of t trees) b → IsStoredAs t a r → IsStoredAs t b r → rowid a ≡ rowid b

-- the rowid of a row of `meta` is its first column
meta_own : (rows : List Row) (a : Row) → Has (map (shown_by_rowid 5) rows) a → rowid a ≡ column (drop 1 a) 0
meta_own rows a there = let m = has_mapped (shown_by_rowid 5) rows a there in ap rowid m.2 ∙ sym (ap (λ (l : Row). column (drop 1 l) 0) m.2)

module _ (schema : Schema) (db : Database) (sound : IsDatabase db) (has : db.schema ≡ schema) where
  unique : Keeps Unique schema db.trees
  unique = subst (λ s. Keeps Unique s db.trees) has (sound.obeys.rules Unique)

  -- where a key of so many columns and one more is unique
  single : {X : Type 0} {t : Table} {of : PlanRow → Option X} {row : X → Row} → IsTableOf t of row → (key : ℕ) → ((x : X) → BeginsExactly (suc key) (row x)) → (sql : SqlTable) → Has schema.tables sql → HasKeyIndex schema sql (suc key) → AreNumbered (db.trees sql.tree)
      → (a b : Row) (r : PlanRow) → Has (db.trees sql.tree) a → Has (db.trees sql.tree) b → IsStoredAs t a r → IsStoredAs t b r → rowid a ≡ rowid b
  single is key exact sql listed index numbered a b r at_a at_b is_a is_b =
      let x = value_of is r is_a.0 in
      twin schema db.trees sql (suc key) listed index unique numbered a b at_a at_b (alike_of key a b (columns_of r) (subst (BeginsExactly (suc key)) (sym x.2) (exact x.0)) is_a.2 is_b.2)

  -- two rows of receipts of one tracker have one rowid, where the table has its key
  single_receipt : Has schema.tables (placed receipt.name receipt.columns 1 15) → HasKeyIndex schema (placed receipt.name receipt.columns 1 15) 1 → AreNumbered (receipt_rows db.trees) → (a b : Row) (c d : Columns) → Has (receipt_rows db.trees) a → Has (receipt_rows db.trees) b
      → IsReceiptStoredAs a c → IsReceiptStoredAs b d → c.tracker ≡ d.tracker → rowid a ≡ rowid b
  single_receipt listed index numbered a b c d at_a at_b is_a is_b same =
      twin schema db.trees (placed receipt.name receipt.columns 1 15) 1 listed index unique numbered a b at_a at_b
      (begin_alike 0 a b (receipt_row (stored_receipt c)) (receipt_row (stored_receipt d)) (tt, tt) (tt, tt) is_a is_b (ap (λ t. Text t ∷ []) (sym same)))

-- the tables and indexes of the first version are in each
tables_in : (version : Version) (t : SqlTable) → Has first_schema.tables t → Has (schema_of version).tables t
tables_in First t has = has
tables_in Second t has = has_left first_schema.tables (drop 9 desk_schema.tables) t has

indexes_in : (version : Version) (i : Index) → Has first_schema.indexes i → Has (schema_of version).indexes i
indexes_in First i has = has
indexes_in Second i has = has_left first_schema.indexes (drop 8 desk_schema.indexes) i has

index_in : (version : Version) (t : SqlTable) (key : ℕ) → HasKeyIndex first_schema t key → HasKeyIndex (schema_of version) t key
index_in version t key index = (index.0, indexes_in version index.0 index.1, index.2, index.3, index.4)

module _ (version : Version) (db : Database) (sound : IsDatabase db) (has : db.schema ≡ schema_of version) where
  -- so is it for a table of the first version, in either
  single_in : {X : Type 0} {t : Table} {of : PlanRow → Option X} {row : X → Row} → IsTableOf t of row → (key : ℕ) → ((x : X) → BeginsExactly (suc key) (row x)) → (sql : SqlTable) → Has first_schema.tables sql → HasKeyIndex first_schema sql (suc key) → AreNumbered (db.trees sql.tree)
      → (a b : Row) (r : PlanRow) → Has (db.trees sql.tree) a → Has (db.trees sql.tree) b → IsStoredAs t a r → IsStoredAs t b r → rowid a ≡ rowid b
  single_in is key exact sql listed index = single (schema_of version) db sound has is key exact sql (tables_in version sql listed) (index_in version sql (suc key) index)

  pub receipt_singly : AreNumbered (receipt_rows db.trees) → (a b : Row) (c d : Columns) → Has (receipt_rows db.trees) a → Has (receipt_rows db.trees) b
      → IsReceiptStoredAs a c → IsReceiptStoredAs b d → c.tracker ≡ d.tracker → rowid a ≡ rowid b
  receipt_singly =
      let t = placed receipt.name receipt.columns 1 15 in
      single_receipt (schema_of version) db sound has (tables_in version t (inr (inr (inr (inr (inr (inr (inr (inr (inl refl)))))))))) (index_in version t 1 (_, (inr (inr (inr (inr (inr (inr (inr (inl refl)))))))), refl, refl, refl))

pub singly : (version : Version) (t : Table) → IsIn version t → (db : Database) → IsDatabase db → db.schema ≡ schema_of version → AreNumbered (rows_of t db.trees) → HoldsSingly t db.trees
singly First table.Quantity is db sound has numbered = absurd is
singly First table.Amount is db sound has numbered = absurd is
singly Second table.Quantity is db sound has numbered = single desk_schema db sound has quantity_table 0 (λ x. (tt, tt)) (placed quantity.name quantity.columns 1 17) (inr (inr (inr (inr (inr (inr (inr (inr (inr (inl refl)))))))))) (_, (inr (inr (inr (inr (inr (inr (inr (inr (inl refl))))))))), refl, refl, refl) numbered
singly Second table.Amount is db sound has numbered = single desk_schema db sound has amount_table 3 (λ x. (tt, (tt, (tt, (tt, tt))))) (placed amount.name amount.columns 4 19) (inr (inr (inr (inr (inr (inr (inr (inr (inr (inr (inl refl))))))))))) (_, (inr (inr (inr (inr (inr (inr (inr (inr (inr (inl refl)))))))))), refl, refl, refl) numbered
singly version table.Meta is db sound has numbered = λ a b r at_a at_b is_a is_b. meta_own (db.trees 0) a at_a ∙ ap (λ (l : Row). column l 0) (is_a.2 ∙ sym is_b.2) ∙ sym (meta_own (db.trees 0) b at_b)
singly version table.Workstation is db sound has numbered = single_in version db sound has workstation_table 0 (λ x. (tt, tt)) (placed workstation.name workstation.columns 1 1) (inr (inl refl)) (_, (inl refl), refl, refl, refl) numbered
singly version table.Interval is db sound has numbered = single_in version db sound has interval_table 1 (λ x. (tt, (tt, tt))) (placed interval.name interval.columns 2 3) (inr (inr (inl refl))) (_, (inr (inl refl)), refl, refl, refl) numbered
singly version table.Resource is db sound has numbered = single_in version db sound has resource_table 0 (λ x. (tt, tt)) (placed resource.name resource.columns 1 5) (inr (inr (inr (inl refl)))) (_, (inr (inr (inl refl))), refl, refl, refl) numbered
singly version table.Occurrence is db sound has numbered = single_in version db sound has occurrence_table 1 (λ x. (tt, (tt, tt))) (placed occurrence.name occurrence.columns 2 7) (inr (inr (inr (inr (inl refl))))) (_, (inr (inr (inr (inl refl)))), refl, refl, refl) numbered
singly version table.Operation is db sound has numbered = single_in version db sound has operation_table 2 (λ x. (tt, (tt, (tt, tt)))) (placed operation.name operation.columns 3 9) (inr (inr (inr (inr (inr (inl refl)))))) (_, (inr (inr (inr (inr (inl refl))))), refl, refl, refl) numbered
singly version table.Dependency is db sound has numbered = single_in version db sound has dependency_table 5 (λ x. (tt, (tt, (tt, (tt, (tt, (tt, tt))))))) (placed dependency.name dependency.columns 6 11) (inr (inr (inr (inr (inr (inr (inl refl))))))) (_, (inr (inr (inr (inr (inr (inl refl)))))), refl, refl, refl) numbered
singly version table.Need is db sound has numbered = single_in version db sound has need_table 3 (λ x. (tt, (tt, (tt, (tt, tt))))) (placed need.name need.columns 4 13) (inr (inr (inr (inr (inr (inr (inr (inl refl)))))))) (_, (inr (inr (inr (inr (inr (inr (inl refl))))))), refl, refl, refl) numbered

-- ---- lists whose elements differ

-- what is read of rows with rowids of their own, of which two that are read alike have one rowid
pub read_apart : {X : Type 0} (IsOf : Row → X → Type 0) (Alike : X → X → Type 0) (stored : List Row) (read : List X) → ((a b : Row) (x y : X) → Has stored a → Has stored b → IsOf a x → IsOf b y → Alike x y → rowid a ≡ rowid b) → IsAscending (λ a b. rowid a ≢ rowid b) stored
    → AllZip IsOf stored read → IsAscending (λ x y. ¬ Alike x y) read
read_apart IsOf Alike [] [] single apart all = tt
read_apart IsOf Alike [] (x ∷ read) single apart all = absurd all
read_apart IsOf Alike (u ∷ stored) [] single apart all = tt
read_apart IsOf Alike (u ∷ stored) (x ∷ read) single apart all = (
  all_from (λ y. ¬ Alike x y) read (λ y there. λ alike.
      let s = stored_for IsOf stored read all.1 y there in
      all_has (λ v. rowid u ≢ rowid v) stored s.0 apart.0 s.1 (single u s.0 x y (inl refl) (inr s.1) all.0 s.2 alike)),
  read_apart IsOf Alike stored read (λ a b x y at_a at_b. single a b x y (inr at_a) (inr at_b)) apart.1 all.1,
)

-- what is read of a table differs
pub read_differ : (t : Table) (trees : Trees) → HoldsSingly t trees → (stored : List Row) (read : List PlanRow) → ((s : Row) → Has stored s → Has (rows_of t trees) s) → IsAscending (λ a b. rowid a ≢ rowid b) stored → AllZip (IsStoredAs t) stored read
    → AllDiffer read
read_differ t trees single stored read among apart all = read_apart (IsStoredAs t) (λ r q. r ≡ q) stored read (λ a b r q at_a at_b is_a is_b same. single a b r (among a at_a) (among b at_b) is_a (subst (IsStoredAs t b) (sym same) is_b)) apart all

-- two lists that have nothing in common
pub joined_differ : {X : Type 0} (xs ys : List X) → AllDiffer xs → AllDiffer ys → ((x y : X) → Has xs x → Has ys y → x ≢ y) → AllDiffer (xs ++ ys)
joined_differ [] ys one two other = two
joined_differ {X = X} (x ∷ xs) ys one two other = (
  behind xs one.0 (λ y there. other x y (inl refl) there),
  joined_differ xs ys one.1 two (λ a b there. other a b (inr there)),
)
  where
    behind : (zs : List X) → AllByRecursion (λ y. x ≢ y) zs → ((y : X) → Has ys y → x ≢ y) → AllByRecursion (λ y. x ≢ y) (zs ++ ys)
    behind [] first more = all_from (λ y. x ≢ y) ys more
    behind (z ∷ zs) first more = (first.0, behind zs first.1 more)

-- a list and one more element that it hasn't
pub differ_front : {X : Type 0} (xs : List X) (x : X) → AllDiffer (xs ++ x ∷ []) → AllDiffer xs × ((y : X) → Has xs y → y ≢ x)
differ_front [] x h = (tt, λ y there. absurd there)
differ_front {X = X} (z ∷ xs) x h =
    let rest = differ_front xs x h.1 in
    let first = parts xs h.0 in
    ((first.0, rest.0), λ y there. elim there [ inl own ↦ (λ same. first.1 (sym own ∙ same)) | inr later ↦ rest.1 y later ])
  where
    parts : (ys : List X) → AllByRecursion (λ y. z ≢ y) (ys ++ x ∷ []) → AllByRecursion (λ y. z ≢ y) ys × (z ≢ x)
    parts [] h = (tt, h.0)
    parts (y ∷ ys) h = let it = parts ys h.1 in ((h.0, it.0), it.1)

pub pairs_apart : {X : Type 0} (IsApart : X → X → Type 0) (xs : List X) → IsAscending IsApart xs → AllPairs IsApart xs
pairs_apart IsApart [] h i j d below within = absurd (omega (arith, within))
pairs_apart IsApart (x ∷ xs) h i zero d below within = absurd (omega (arith, below))
pairs_apart IsApart (x ∷ xs) h zero (suc j) d below within = all_has (λ y. IsApart x y) xs (get_or xs j d) h.0 (has_contained xs (get_or xs j d) (Contains-get_or xs j d (omega (arith, within))))
pairs_apart IsApart (x ∷ xs) h (suc i) (suc j) d below within = pairs_apart IsApart xs h.1 i j d (omega (arith, below)) (omega (arith, within))

pub tables_differ : (version : Version) → AllDiffer (tables_of version)
tables_differ First = ((λ e. absurd cc, (λ e. absurd cc, (λ e. absurd cc, (λ e. absurd cc, (λ e. absurd cc, (λ e. absurd cc, (λ e. absurd cc, tt))))))), ((λ e. absurd cc, (λ e. absurd cc, (λ e. absurd cc, (λ e. absurd cc, (λ e. absurd cc, (λ e. absurd cc, tt)))))), ((λ e. absurd cc, (λ e. absurd cc, (λ e. absurd cc, (λ e. absurd cc, (λ e. absurd cc, tt))))), ((λ e. absurd cc, (λ e. absurd cc, (λ e. absurd cc, (λ e. absurd cc, tt)))), ((λ e. absurd cc, (λ e. absurd cc, (λ e. absurd cc, tt))), ((λ e. absurd cc, (λ e. absurd cc, tt)), ((λ e. absurd cc, tt), (tt, tt))))))))
tables_differ Second = ((λ e. absurd cc, (λ e. absurd cc, (λ e. absurd cc, (λ e. absurd cc, (λ e. absurd cc, (λ e. absurd cc, (λ e. absurd cc, (λ e. absurd cc, (λ e. absurd cc, tt))))))))), ((λ e. absurd cc, (λ e. absurd cc, (λ e. absurd cc, (λ e. absurd cc, (λ e. absurd cc, (λ e. absurd cc, (λ e. absurd cc, (λ e. absurd cc, tt)))))))), ((λ e. absurd cc, (λ e. absurd cc, (λ e. absurd cc, (λ e. absurd cc, (λ e. absurd cc, (λ e. absurd cc, (λ e. absurd cc, tt))))))), ((λ e. absurd cc, (λ e. absurd cc, (λ e. absurd cc, (λ e. absurd cc, (λ e. absurd cc, (λ e. absurd cc, tt)))))), ((λ e. absurd cc, (λ e. absurd cc, (λ e. absurd cc, (λ e. absurd cc, (λ e. absurd cc, tt))))), ((λ e. absurd cc, (λ e. absurd cc, (λ e. absurd cc, (λ e. absurd cc, tt)))), ((λ e. absurd cc, (λ e. absurd cc, (λ e. absurd cc, tt))), ((λ e. absurd cc, (λ e. absurd cc, tt)), ((λ e. absurd cc, tt), (tt, tt))))))))))
