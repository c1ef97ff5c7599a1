-- The rows of receipts that the tables of a database store.
use Rattle.std.proofs.Common.{◌≡◌, ◌↔◌, refl, sym, ap, subst, ◌∙◌, Contains, List, map}
use Rattle.std.proofs.lemmas.List.Sorted.{IsPermutation-sym}
use Rattle.sqlite.specs.Effect.{Database}
use Rattle.sqlite.specs.Order.{Row}
use Rattle.sqlite.specs.Tree.{Trees}
use Rattle.sqlite_rules.specs.Lists.{Has}
use Rattle.sqlite_rules.proofs.ListLemmas.{contains_had, has_contained}
use Rattle.store_schema.specs.Stored.{Holds}
use Rattle.store_schema.proofs.Queries.{has_mapped, has_permuted, mapped_has}
use Rattle.plan_basics.specs.Keys.{Name}
use Rattle.plan_records.specs.Receipts.{IsReceiptRow}
use Rattle.plan_records.specs.Step.{Receipt, Receipts}
use Rattle.plan_records.specs.declared.PlanRow.{PlanRow}
use Rattle.store_schema.specs.StoredPlans.{Held, StoredReceipt, receipt_row}
use Rattle.store_schema.specs.declared.texts.Version.{Version}
use Rattle.store_schema.specs.Receipts.{HoldReceipts, stored_receipt}
use Rattle.store_reads.specs.Receipts.{IsReceiptStoredAs}
use Rattle.store_reads.proofs.Decoded.{one_receipt, row_for, stored_for}
use Rattle.store_schema.specs.tracker_receipts.specs.Stored.{AreRowsOf, Columns, columns_of}
use Rattle.store_reads.specs.Tables.{receipt_rows, AreReceiptsRead, StoresEach, StoresRows}

-- ---- the receipts were read

-- the table holds what was read of it
pub receipts_held : (trees : Trees) (receipts : List Columns) → AreReceiptsRead trees receipts → Holds receipt_row (receipt_rows trees) (map stored_receipt receipts)
receipts_held trees receipts read = record {
  numbered = read.numbered;
  sound = λ s there.
      let it = row_for IsReceiptStoredAs read.stored receipts read.read s (has_permuted (receipt_rows trees) read.stored s read.same there) in
      (stored_receipt it.0, mapped_has stored_receipt receipts it.0 it.1, it.2);
  complete = λ x there.
      let of = has_mapped stored_receipt receipts x there in
      let it = stored_for IsReceiptStoredAs read.stored receipts read.read of.0 of.1 in
      (it.0, has_permuted read.stored (receipt_rows trees) it.0 (IsPermutation-sym (receipt_rows trees) read.stored read.same) it.1, it.2 ∙ ap receipt_row (sym of.2));
}

-- they are those that the list contains
pub receipts_listed : (receipts : List Columns) (x : StoredReceipt) → Has (map stored_receipt receipts) x ↔ ((c : Columns) × Contains receipts c × (x ≡ stored_receipt c))
receipts_listed receipts x = (
  λ there. let of = has_mapped stored_receipt receipts x there in (of.0, contains_had receipts of.0 of.1, of.2),
  λ it. subst (Has (map stored_receipt receipts)) (sym it.2) (mapped_has stored_receipt receipts it.0 (has_contained receipts it.0 it.1)),
)

-- ---- the receipts that a database stores

module _ {version : Version} {IsIn : PlanRow → Type 0} {HasReceipt : Columns → Type 0} {db : Database} (h : StoresRows version IsIn HasReceipt db) where
  -- each of them stands in the table
  receipt_stored : (c : Columns) → HasReceipt c → (s : Row) × Has (receipt_rows db.trees) s × IsReceiptStoredAs s c
  receipt_stored c in_it = h.stores.receipts.complete (stored_receipt c) ((h.receipts (stored_receipt c)).1 (c, in_it, refl))

  -- what stands in it is one of them
  pub receipt_of : (s : Row) → Has (receipt_rows db.trees) s → (c : Columns) × HasReceipt c × IsReceiptStoredAs s c
  receipt_of s there =
      let it = h.stores.receipts.sound s there in
      let of = (h.receipts it.0).0 it.1 in
      (of.0, of.1, it.2 ∙ ap receipt_row of.2)

module _ {version : Version} {A B : PlanRow → Type 0} {R S : Columns → Type 0} {db : Database} where
  receipts_within : StoresRows version A R db → StoresRows version B S db → (c : Columns) → R c → S c
  receipts_within h k c in_r =
      let stored = receipt_stored h c in_r in
      let it = receipt_of k stored.0 stored.1 in
      subst S (one_receipt stored.0 it.0 c it.2 stored.2) it.1

-- a database stores one set of receipts' rows
pub one_receipts : {version : Version} {A B : PlanRow → Type 0} {R S : Columns → Type 0} {db : Database} → StoresRows version A R db → StoresRows version B S db → (c : Columns) → R c ↔ S c
one_receipts h k c = (receipts_within h k c, receipts_within k h c)

-- ---- the rows of receipts by tracker

-- a row of these receipts
abbrev pub IsRowIn : Receipts → Columns → Type 0
IsRowIn T c = (tracker : Name) × (receipt : Receipt) × IsReceiptRow T tracker receipt × (c ≡ columns_of tracker receipt)

-- the table holds these receipts where it holds their rows
pub hold_receipts : (T : Receipts) (held : Held) → ((x : StoredReceipt) → Has held.receipts x ↔ ((c : Columns) × IsRowIn T c × (x ≡ stored_receipt c))) ↔ HoldReceipts T held
hold_receipts T held = (
  λ h x. (
    λ there. let it = (h x).0 there in (it.1.0, it.1.1, it.1.2, it.2 ∙ ap stored_receipt it.1.3),
    λ it. (h x).1 (columns_of it.0 it.1, (it.0, it.1, it.2, refl), it.3),
  ),
  λ h x. (
    λ there. let it = (h x).0 there in (columns_of it.0 it.1, (it.0, it.1, it.2, refl), it.3),
    λ it. (h x).1 (it.1.0, it.1.1, it.1.2, it.2 ∙ ap stored_receipt it.1.3),
  ),
)

-- where the rows of a list are those of receipts, a database that stores the ones holds the others
pub receipts_stored : {version : Version} (T : Receipts) (rows : List PlanRow) (receipts : List Columns) (db : Database) → AreRowsOf T receipts → (h : StoresEach version rows receipts db) → HoldReceipts T h.stores.held
receipts_stored T rows receipts db are h = (hold_receipts T h.stores.held).0 (λ x. (
  λ there. let it = (h.stores.receipts x).0 there in (it.0, (are.each it.0).0 it.1, it.2),
  λ it. (h.stores.receipts x).1 (it.0, (are.each it.0).1 it.1, it.2),
))

-- where a database stores the rows of receipts, those that it stores, no two of one tracker, are theirs
pub rows_of_receipts : {version : Version} {A : PlanRow → Type 0} (T : Receipts) (rows : List PlanRow) (receipts : List Columns) (db : Database) → StoresEach version rows receipts db → StoresRows version A (IsRowIn T) db → AreRowsOf T receipts
rows_of_receipts T rows receipts db h k = record { each = one_receipts h.stores k; once = h.once_receipts }
