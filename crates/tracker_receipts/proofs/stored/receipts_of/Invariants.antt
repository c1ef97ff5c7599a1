use Rattle.std.proofs.Common.{take, true}
use Rattle.plan_laws.specs.plan_records.specs.Receipts.{AreReceipts}
use Rattle.tracker_receipts.specs.Stored.{AreRowsOf}
use Rattle.tracker_receipts.proofs.stored.receipts_of.Given as goal

abbrev pub invariant-loop-row : goal.invariant-loop-row
invariant-loop-row l = AreReceipts true l.receipts × AreRowsOf l.receipts (take l.row-index l.rows)
