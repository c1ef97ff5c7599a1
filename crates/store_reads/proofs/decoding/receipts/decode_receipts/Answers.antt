use Rattle.store_reads.specs.Receipts.{IsReceiptStoredAs}
use Rattle.store_reads.proofs.Appended.{zipped_more}
use Rattle.store_reads.proofs.decoding.receipts.decode_receipts.Goals as goal

pub loop-row-preserved : goal.loop-row-preserved
loop-row-preserved c =
    rw c.in_ok-push.ensures.items (zipped_more IsReceiptStoredAs c.args.rows.now c.loop-row.row-index c.row-item.result c.loop-row.receipts.items c.in-Some.receipt c.loop-row-test.true c.row-item.is c.loop-row.invariant (rw c.in-Some.is at c.in_ok-receipt.ensures))
