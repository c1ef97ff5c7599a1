-- Tables hold the receipts of one map.
use Rattle.std.proofs.Common.{◌≡◌, refl, sym, ap, subst}
use Rattle.plan_basics.specs.Keys.{Name}
use Rattle.tracker_receipts.specs.plan_laws.proofs.Tabling.{rows_tell_receipts}
use Rattle.tracker_receipts.specs.plan_records.specs.Receipts.{IsReceipt, IsReceiptRow}
use Rattle.tracker_receipts.specs.plan_records.specs.Step.{Receipt, Receipts}
use Rattle.store_schema.specs.StoredPlans.{Held, StoredReceipt}
use Rattle.tracker_receipts.specs.Stored.{columns_of}
use Rattle.tracker_receipts.proofs.SameReceipt.{one_receipt}
use Rattle.store_schema.specs.Receipts.{HoldReceipts, receipt_columns}

-- each is well formed
abbrev pub AreLegal : Receipts → Type 0
AreLegal T = (tracker : Name) (receipt : Receipt) → IsReceiptRow T tracker receipt → IsReceipt tracker receipt

-- columns that are stored alike are alike
stored_alike : (t u : Name) (r s : Receipt) → receipt_columns t r ≡ receipt_columns u s → columns_of t r ≡ columns_of u s
stored_alike t u r s e =
    let tracker = ap (λ (x : StoredReceipt). x.tracker) e in
    let number = ap (λ (x : StoredReceipt). x.number) e in
    let text = ap (λ (x : StoredReceipt). x.request) e in
    let reply = ap (λ (x : StoredReceipt). x.reply) e in
    λ i. record { tracker = tracker i; number = number i; text = text i; reply = reply i }

-- what the one has, another that the tables hold has
module _ (T U : Receipts) (held : Held) (legal : AreLegal T) (legal_too : AreLegal U) (h : HoldReceipts T held) (k : HoldReceipts U held) where
  within : (t : Name) (r : Receipt) → IsReceiptRow T t r → IsReceiptRow U t r
  within t r is =
      let it = (k (receipt_columns t r)).0 ((h (receipt_columns t r)).1 (t, r, is, refl)) in
      let same = one_receipt t it.0 r it.1 (legal t r is) (legal_too it.0 it.1 it.2) (stored_alike t it.0 r it.1 it.3) in
      subst (λ u. IsReceiptRow U u r) (sym same.0) (subst (IsReceiptRow U it.0) (sym same.1) it.2)

-- tables hold one map of well formed receipts
pub one_receipts : (T U : Receipts) (held : Held) → AreLegal T → AreLegal U → HoldReceipts T held → HoldReceipts U held → T ≡ U
one_receipts T U held legal legal_too h k = rows_tell_receipts T U (λ t r. (within T U held legal legal_too h k t r, within U T held legal_too legal k h t r))
