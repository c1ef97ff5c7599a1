-- Tables that are read one after another.
use Rattle.std.proofs.Common.{◌≡◌, ◌≢◌, inl, inr, refl, sym, ap, ap₂, subst, ℕ, zero, suc, ◌+◌, ◌<◌, ◌∙◌, arith, Bool, true, false, List, [], ◌∷◌, ◌++◌, take, length, get_or, Option, Some, None, Result, Ok, Err, IfOk, IfSome, IsTrue, MatchBool, MatchOption, Any, Vec}
use Rattle.std.specs.declared.alloc.Global.{Global}
use Rattle.std.specs.List.{AllByRecursion, AllPairs, AllZip}
use Rattle.std.specs.List.Sorted.{IsPermutation}
use Rattle.std.proofs.lemmas.List.{take_more}
use Rattle.std.proofs.lemmas.List.Sorted.{IsPermutation-sym}
use Rattle.sqlite.specs.Effect.{Database, IsDatabase}
use Rattle.sqlite.specs.Order.{Row}
use Rattle.sqlite.specs.State.{State, HasCleanDisk, IsLive, IsUnchanged, KeepsCommit}
use Rattle.sqlite.specs.Tree.{Trees}
use Rattle.sqlite.specs.declared.error.Error.{Error}
use Rattle.sqlite.proofs.StateLemmas.{survives_then}
use Rattle.sqlite_rules.specs.Lists.{Has}
use Rattle.sqlite_rules.proofs.ListLemmas.{any_has, has_either, has_left, has_right}
use Rattle.store_schema.proofs.Queries.{has_permuted}
use Rattle.store_schema.proofs.Reading.{numbered_permuted}
use Rattle.plan_records.specs.declared.PlanRow.{PlanRow}
use Rattle.store_schema.specs.Schema.{schema_of}
use Rattle.store_schema.specs.declared.texts.Version.{Version}
use Rattle.store_schema.specs.declared.texts.Version.TheVariants.{Second}
use Rattle.store_reads.specs.Receipts.{IsNoReceipt, IsReceiptStoredAs}
use Rattle.store_reads.specs.Rows.{table_for, AppendsRows, IsNoRow, IsStoredAs}
use Rattle.store_reads.specs.declared.decoding.Table.{Table}
use Rattle.store_reads.proofs.Decoded.{row_for, stored_for}
use Rattle.store_reads.specs.Reads.{OnlyReads, ShowsSame, rise_above}
use Rattle.store_schema.specs.tracker_receipts.specs.Stored.{Columns}
use Rattle.store_reads.specs.declared.tables.rows.StoredTables.{StoredTables}
use Rattle.store_reads.specs.Tables.{tables_of, receipt_rows, rows_of, AddsTable, AreRead, AreReceiptsRead, HasOtherRow, AllDiffer, IsIn, IsTableRead, StoresEach}
use Rattle.store_reads.proofs.EachOnce.{differ_front, joined_differ, pairs_apart, read_apart, read_differ, receipt_singly, singly, tables_differ, HoldsSingly}
use Rattle.store_reads.proofs.RowidOrder.{rising_numbered}
use Rattle.store_reads.proofs.RowsStored.{all_read}

-- ---- one table

-- the rows of a table that are decoded
pub table_added : (version : Version) (t : Table) → IsIn version t → (trees : Trees) (stored : List Row) (before after : List PlanRow) (all : Bool) → IsPermutation (rows_of t trees) stored → rise_above None stored ≡ true
    → MatchBool all (AppendsRows t stored before after) (Any (IsNoRow t) stored) → MatchBool all (AddsTable t trees before after) (HasOtherRow version trees)
table_added version t is_in trees stored before after true same rises added =
    record { numbered = numbered_permuted stored (rows_of t trees) (IsPermutation-sym (rows_of t trees) stored same) (rising_numbered stored rises); stored = stored; same = same; added = added }
table_added version t is_in trees stored before after false same rises some =
    let it = any_has (IsNoRow t) stored some in
    inl (t, it.0, is_in, has_permuted stored (rows_of t trees) it.0 (IsPermutation-sym (rows_of t trees) stored same) it.1, it.2)

-- the rows of the table of receipts that are decoded
pub receipts_decoded : (version : Version) (trees : Trees) (stored : List Row) (found : Option (Vec Columns Global)) → IsPermutation (receipt_rows trees) stored → rise_above None stored ≡ true → MatchOption found (Any IsNoReceipt stored) (λ receipts. AllZip IsReceiptStoredAs stored receipts.items)
    → MatchOption found (HasOtherRow version trees) (λ receipts. AreReceiptsRead trees receipts.items)
receipts_decoded version trees stored (Some receipts) same rises read =
    record { numbered = numbered_permuted stored (receipt_rows trees) (IsPermutation-sym (receipt_rows trees) stored same) (rising_numbered stored rises); stored = stored; same = same; read = read }
receipts_decoded version trees stored None same rises some =
    let it = any_has IsNoReceipt stored some in
    inr (it.0, has_permuted stored (receipt_rows trees) it.0 (IsPermutation-sym (receipt_rows trees) stored same) it.1, it.2)

module _ (tables : List Table) (trees : Trees) (rows more : List PlanRow) (t : Table) (read : AreRead tables trees rows) (adds : AddsTable t trees rows more) (single : HoldsSingly t trees) where
  has_more : (r : PlanRow) → Has rows r → Has more r
  has_more r there = subst (λ l. Has l r) (sym adds.added.1) (has_left rows adds.added.0 r there)

  new_one : IsTableRead trees more t
  new_one = record {
    numbered = adds.numbered;
    every = λ stored there.
        let it = row_for (IsStoredAs t) adds.stored adds.added.0 adds.added.2 stored (has_permuted (rows_of t trees) adds.stored stored adds.same there) in
        (it.0, subst (λ l. Has l it.0) (sym adds.added.1) (has_right rows adds.added.0 it.0 it.1), it.2);
  }

  old_one : (u : Table) → IsTableRead trees rows u → IsTableRead trees more u
  old_one u h = record { numbered = h.numbered; every = λ stored there. let it = h.every stored there in (it.0, has_more it.0 it.1, it.2) }

  new_row : (r : PlanRow) → Has adds.added.0 r → (stored : Row) × Has (rows_of (table_for r) trees) stored × IsStoredAs (table_for r) stored r
  new_row r there =
      let it = stored_for (IsStoredAs t) adds.stored adds.added.0 adds.added.2 r there in
      let own : table_for r ≡ t = it.2.0 in
      let place = has_permuted adds.stored (rows_of t trees) it.0 (IsPermutation-sym (rows_of t trees) adds.stored adds.same) it.1 in
      (it.0, subst (λ u. Has (rows_of u trees) it.0) (sym own) place, (refl, it.2.1, it.2.2))

  -- what is read of it is there once, and none of it was there
  read_once : AllDiffer (tables ++ t ∷ []) → AllDiffer more
  read_once differ =
      let front = differ_front tables t differ in
      let back = λ (s : Row) (there : Has adds.stored s). has_permuted adds.stored (rows_of t trees) s (IsPermutation-sym (rows_of t trees) adds.stored adds.same) there in
      let own = read_differ t trees single adds.stored adds.added.0 back (numbered_permuted (rows_of t trees) adds.stored adds.same adds.numbered).0 adds.added.2 in
      subst AllDiffer (sym adds.added.1) (joined_differ rows adds.added.0 (read.once front.0) own (λ a b at_a at_b. λ same.
      let it = stored_for (IsStoredAs t) adds.stored adds.added.0 adds.added.2 b at_b in
      front.1 (table_for a) (read.listed a at_a) (ap table_for same ∙ it.2.0)))

  new_listed : (r : PlanRow) → Has adds.added.0 r → Has (tables ++ t ∷ []) (table_for r)
  new_listed r there = has_right tables (t ∷ []) (table_for r) (inl (stored_for (IsStoredAs t) adds.stored adds.added.0 adds.added.2 r there).2.0)

  -- one more table is read
  pub one_more : AreRead (tables ++ t ∷ []) trees more
  one_more = record {
    tables_read = λ u there. elim (has_either tables (t ∷ []) u there) [
      | inl was ↦ old_one u (read.tables_read u was)
      | inr last ↦ elim last [ inl own ↦ subst (IsTableRead trees more) (sym own) new_one | inr none ↦ absurd none ]
    ];
    listed = λ r there. elim (has_either rows adds.added.0 r (subst (λ l. Has l r) adds.added.1 there)) [
      | inl was ↦ has_left tables (t ∷ []) (table_for r) (read.listed r was)
      | inr new ↦ new_listed r new
    ];
    once = read_once;
    only = λ r there. elim (has_either rows adds.added.0 r (subst (λ l. Has l r) adds.added.1 there)) [
      | inl was ↦ read.only r was
      | inr new ↦ new_row r new
    ];
  }

none_read : (trees : Trees) → AreRead [] trees []
none_read trees = record { tables_read = λ t there. absurd there; listed = λ r there. absurd there; only = λ r there. absurd there; once = λ _. tt }

-- ---- what the connection shows meanwhile

pub reads_nothing : (s : State) → OnlyReads s s
reads_nothing s = record {
  kept = λ clean. record { was_open = λ is_open. is_open; committed = λ is_open. refl };
  survives = record { clean = omega arith; shield = λ h. h; counts = omega arith; limit = refl; closes = λ clean is_open. inl is_open; crash = λ clean db may. inl may };
}

same_nothing : (s : State) → ShowsSame s s
same_nothing s = record { was_open = λ is_open. is_open; now_is = refl; committed_is = refl }

pub same_then : (a b c : State) → ShowsSame a b → IsUnchanged b c → ShowsSame a c
same_then a b c one two = record { was_open = λ is_open. one.was_open two.0.was_open; now_is = two.0.now_is ∙ one.now_is; committed_is = two.0.committed_is ∙ one.committed_is }

module _ (a b c : State) (one : OnlyReads a b) (two : OnlyReads b c) where
  pub late : HasCleanDisk c → HasCleanDisk b
  late clean = let it : HasCleanDisk b = omega (arith, clean, two.survives.clean) in it

  pub reads_then : OnlyReads a c
  reads_then = record {
    kept = λ clean.
        let before = one.kept (late clean) in
        let after = two.kept clean in
        record { was_open = λ is_open. before.was_open (after.was_open is_open); committed = λ is_open. after.committed is_open ∙ before.committed (after.was_open is_open) };
    survives = survives_then a b c (λ _. ⊥) (λ _. ⊥) (λ _. ⊥) (λ _ db none. none) (λ _ db none. none) one.survives two.survives;
  }

-- ---- tables one after another

pub live_same : (a b : State) → ShowsSame a b → IsLive a → IsLive b
live_same a b same live is_open =
    let it = live (same.was_open is_open) in
    (subst IsDatabase (sym same.now_is) it.0, subst IsDatabase (sym same.committed_is) it.1)

-- these tables are read, and these are their rows
pub record IsReadSoFar (old now : State) (tables : List Table) (rows : List PlanRow) : Type 0 where
  pub idle : old.in_transaction ≡ false → now.in_transaction ≡ false
  pub reads : OnlyReads old now
  pub same : HasCleanDisk now → ShowsSame old now
  pub rows_read : HasCleanDisk now → IsLive old → (version : Version) → AllByRecursion (IsIn version) tables → old.now.schema ≡ schema_of version → AreRead tables old.now.trees rows

pub nothing_read : (s : State) → IsReadSoFar s s [] []
nothing_read s = record { idle = λ h. h; reads = reads_nothing s; same = λ clean. same_nothing s; rows_read = λ clean live version all has. none_read s.now.trees }

-- what is so of all elements is so of each
pub one_of : {X : Type 0} (P : X → Type 0) (xs : List X) (i : ℕ) (d : X) → i < length xs → AllByRecursion P xs → P (get_or xs i d)
one_of P [] i d in_range h = absurd (omega (arith, in_range))
one_of P (x ∷ xs) zero d in_range h = h.0
one_of P (x ∷ xs) (suc i) d in_range h = one_of P xs i d (omega (arith, in_range)) h.1

-- what is so of all elements is so of all but the last, and of the last
front_and_last : {X : Type 0} (P : X → Type 0) (xs : List X) (x : X) → AllByRecursion P (xs ++ x ∷ []) → AllByRecursion P xs × P x
front_and_last P [] x h = (tt, h.0)
front_and_last P (y ∷ xs) x h = let it = front_and_last P xs x h.1 in ((h.0, it.0), it.1)

module _ (old now new : State) (tables : List Table) (rows more : List PlanRow) (t : Table) (far : IsReadSoFar old now tables rows) (reads : OnlyReads now new) (all : Bool)
    (found : HasCleanDisk new → IsLive now → (version : Version) → IsIn version t → now.now.schema ≡ schema_of version → MatchBool all (AddsTable t now.now.trees rows more) (HasOtherRow version now.now.trees)) where
  -- of a table that is read, what is said of the database that was there at first
  found_first : HasCleanDisk new → IsLive old → (version : Version) → IsIn version t → old.now.schema ≡ schema_of version → MatchBool all (AddsTable t old.now.trees rows more) (HasOtherRow version old.now.trees)
  found_first clean live version is_in has =
      let same = far.same (late old now new far.reads reads clean) in
      subst (λ (db : Database). MatchBool all (AddsTable t db.trees rows more) (HasOtherRow version db.trees)) same.now_is
      (found clean (live_same old now same live) version is_in (ap (λ (db : Database). db.schema) same.now_is ∙ has))

  -- a row of it is none of a plan
  pub other_found : all ≡ false → HasCleanDisk new → IsLive old → (version : Version) → IsIn version t → old.now.schema ≡ schema_of version → HasOtherRow version old.now.trees
  other_found is clean live version is_in has = subst (λ b. MatchBool b (AddsTable t old.now.trees rows more) (HasOtherRow version old.now.trees)) is (found_first clean live version is_in has)

  -- its rows are appended
  pub far_more : (now.in_transaction ≡ false → new.in_transaction ≡ false) → (HasCleanDisk new → IsUnchanged now new) → all ≡ true → IsReadSoFar old new (tables ++ t ∷ []) more
  far_more idle unchanged is = record {
    idle = λ h. idle (far.idle h);
    reads = reads_then old now new far.reads reads;
    same = λ clean. same_then old now new (far.same (late old now new far.reads reads clean)) (unchanged clean);
    rows_read = λ clean live version listed has.
        let both = front_and_last (IsIn version) tables t listed in
        let adds = subst (λ b. MatchBool b (AddsTable t old.now.trees rows more) (HasOtherRow version old.now.trees)) is (found_first clean live version both.1 has) in
        let early = late old now new far.reads reads clean in
        let sound = (live ((far.same early).was_open (unchanged clean).0.was_open)).0 in
        one_more tables old.now.trees rows more t (far.rows_read early live version both.0 has) adds (singly version t both.1 old.now sound has adds.numbered);
  }

  -- the same of the next of a list of tables
  pub far_next : (all_of : List Table) (i : ℕ) (d : Table) → i < length all_of → tables ≡ take i all_of → t ≡ get_or all_of i d → (now.in_transaction ≡ false → new.in_transaction ≡ false) → (HasCleanDisk new → IsUnchanged now new) → all ≡ true
      → IsReadSoFar old new (take (i + 1) all_of) more
  far_next all_of i d in_range before own idle unchanged is =
      subst (λ l. IsReadSoFar old new l more) (ap₂ (λ (l : List Table) (u : Table). l ++ u ∷ []) before own ∙ sym (take_more all_of i d in_range)) (far_more idle unchanged is)

-- ---- all tables

-- no two receipts that were read are of one tracker
receipts_apart : (version : Version) (db : Database) → IsDatabase db → db.schema ≡ schema_of version → (receipts : List Columns) → AreReceiptsRead db.trees receipts → AllPairs (λ a b. a.tracker ≢ b.tracker) receipts
receipts_apart version db sound has receipts read =
    let back = λ (s : Row) (there : Has read.stored s). has_permuted read.stored (receipt_rows db.trees) s (IsPermutation-sym (receipt_rows db.trees) read.stored read.same) there in
    let own = (numbered_permuted (receipt_rows db.trees) read.stored read.same read.numbered).0 in
    pairs_apart (λ a b. a.tracker ≢ b.tracker) receipts
    (read_apart IsReceiptStoredAs (λ c d. c.tracker ≡ d.tracker) read.stored receipts (λ a b c d at_a at_b is_a is_b same. receipt_singly version db sound has read.numbered a b c d (back a at_a) (back b at_b) is_a is_b same) own read.read)

-- what is read of all tables of this database
abbrev pub IsAllRead : Version → Database → Option StoredTables → Type 0
IsAllRead version db found = MatchOption found (HasOtherRow version db.trees) (λ tables. AreRead (tables_of version) db.trees tables.rows.items × AreReceiptsRead db.trees tables.receipts.items)

-- what is answered of it
abbrev pub IsAnswered : Version → Database → Option StoredTables → Type 0
IsAnswered version db found = MatchOption found (HasOtherRow version db.trees) (λ tables. (tables.version ≡ version) × StoresEach version tables.rows.items tables.receipts.items db)

all_answered : (version : Version) (db : Database) (found : Option StoredTables) → IfSome found (λ tables. tables.version ≡ version) → IsAllRead version db found → db.schema ≡ schema_of version → IsDatabase db → IsAnswered version db found
all_answered version db None named other has sound = other
all_answered version db (Some tables) named read has sound = (
  named,
  record {
    stores = all_read version db sound has tables.rows.items tables.receipts.items read.0 read.1;
    once = pairs_apart (λ a b. a ≢ b) tables.rows.items (read.0.once (tables_differ version));
    once_receipts = receipts_apart version db sound has tables.receipts.items read.1;
  },
)

-- the tables are named by the version that was read, which that of the schema is
pub version_named : (named : Version) (db : Database) (r : Result (Option StoredTables) Error) → ((version : Version) → db.schema ≡ schema_of version → named ≡ version) → IfOk r (λ found. IfSome found (λ tables. tables.version ≡ named))
    → IfOk r (λ found. IfSome found (λ tables. (version : Version) → db.schema ≡ schema_of version → tables.version ≡ version))
version_named named db (Err e) told is = tt
version_named named db (Ok None) told is = tt
version_named named db (Ok (Some tables)) told is = λ version has. is ∙ told version has

-- what has a table `quantity` is read by the texts of the second version
pub second_named : (named : Version) (there : Type 0) (r : Result (Option StoredTables) Error) → (there → named ≡ Second) → IfOk r (λ found. IfSome found (λ tables. tables.version ≡ named))
    → IfOk r (λ found. IfSome found (λ tables. there → tables.version ≡ Second))
second_named named there (Err e) told is = tt
second_named named there (Ok None) told is = tt
second_named named there (Ok (Some tables)) told is = λ has. is ∙ told has

-- outside a transaction what is read is what is committed
pub committed_rows : (named version : Version) (old new : State) (r : Result (Option StoredTables) Error) → (IsTrue old.is_open → old.now ≡ old.committed) → IsLive old → KeepsCommit old new → IsTrue new.is_open → ((any : Version) → old.now.schema ≡ schema_of any → named ≡ any)
    → IfOk r (λ found. IfSome found (λ tables. tables.version ≡ named)) → (old.now.schema ≡ schema_of named → IfOk r (IsAllRead named old.now)) → new.committed.schema ≡ schema_of version → IfOk r (IsAnswered version new.committed)
committed_rows named version old new (Err e) settled live kept is_open told is read has = tt
committed_rows named version old new (Ok found) settled live kept is_open told is read has =
    let was = kept.was_open is_open in
    let same : new.committed ≡ old.now = kept.committed is_open ∙ sym (settled was) in
    let own : old.now.schema ≡ schema_of version = ap (λ (db : Database). db.schema) (sym same) ∙ has in
    let one : named ≡ version = told version own in
    let its = subst (λ v. IfSome found (λ (tables : StoredTables). tables.version ≡ v)) one is in
    let rows = subst (λ v. old.now.schema ≡ schema_of v → IsAllRead v old.now found) one read own in
    subst (λ db. IsAnswered version db found) (sym same) (all_answered version old.now found its rows own (live was).0)
