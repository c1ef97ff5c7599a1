use Rattle.std.proofs.Common.{◌≡◌, ◌+◌, [], arith, inr, refl, subst, sym, take, true, true≢false}
use Rattle.plan_basics.specs.Names.{IsName}
use Rattle.plan_laws.specs.plan_records.specs.Receipts.{AreReceipts, IsReceipt}
use Rattle.tracker_receipts.specs.Stored.{AreRowsOf, columns_of}
use Rattle.tracker_receipts.proofs.Keeping.{none_legal, one_more_legal}
use Rattle.tracker_receipts.proofs.Listing.{closed, no_receipt, no_rows, no_tracker, row_taken}
use Rattle.tracker_receipts.proofs.stored.receipts_of.Goals as goal

pub loop-row-init : goal.loop-row-init
loop-row-init c = subst (λ T. AreReceipts true T × AreRowsOf T []) (sym c.in_ok-receipts.ensures) (none_legal, no_rows)

pub returns-in_default : goal.returns-in_default
returns-in_default c = no_tracker c.args.rows.now c.loop-row.row-index c.row-item.result (omega arith) c.row-item.is (rw c.in_default.is at c.tracker.ensures)

pub returns-then-not-is_open_to : goal.returns-then-not-is_open_to
returns-then-not-is_open_to c =
    let named = rw c.in-Some.is at c.tracker.ensures in
    closed c.args.rows.now c.loop-row.row-index c.row-item.result (omega arith) c.row-item.is c.loop-row.receipts c.loop-row.invariant.1 c.in-Some.tracker named.1
    (λ free. true≢false (sym (c.if-not-is_open_to.ensures.1 free)))

pub receipt-requires : goal.receipt-requires
receipt-requires c = let named = rw c.in-Some.is at c.tracker.ensures in subst (IsName 8) named.1 named.0

pub returns-in_default-2 : goal.returns-in_default-2
returns-in_default-2 c = no_receipt c.args.rows.now c.loop-row.row-index c.row-item.result (omega arith) c.row-item.is (rw c.in_default-2.is at c.in_ok-receipt.ensures)

pub put-requires-clause-room : goal.put-requires-clause-room
put-requires-clause-room c = inr (c.if-not-is_open_to.ensures.0 refl).1

pub put-requires-clause-legal : goal.put-requires-clause-legal
put-requires-clause-legal c =
    let named = rw c.in-Some.is at c.tracker.ensures in
    subst (λ k. IsReceipt k c.in-Some-2.receipt) (sym named.1) (rw c.in-Some-2.is at c.in_ok-receipt.ensures).0

pub loop-row-preserved : goal.loop-row-preserved
loop-row-preserved c =
    let T = c.loop-row.receipts in
    let k = c.in-Some.tracker in
    let r = c.in-Some-2.receipt in
    let named = rw c.in-Some.is at c.tracker.ensures in
    let is = subst (λ z. IsReceipt z r × (c.row-item.result ≡ columns_of z r)) (sym named.1) (rw c.in-Some-2.is at c.in_ok-receipt.ensures) in
    let free = c.if-not-is_open_to.ensures.0 refl in
    subst (λ U. AreReceipts true U × AreRowsOf U (take (c.loop-row.row-index + 1) c.args.rows.now)) (sym c.put.ensures) (
      one_more_legal T k r c.loop-row.invariant.0 is.0 (inr free.1),
      row_taken c.args.rows.now c.loop-row.row-index c.row-item.result (omega arith) c.row-item.is T k r c.loop-row.invariant.1 is.1 free.0,
    )
