use Rattle.std.proofs.Common.{take}
use Rattle.std.specs.List.{AllZip}
use Rattle.store_reads.specs.Receipts.{IsReceiptStoredAs}
use Rattle.store_reads.proofs.decoding.receipts.decode_receipts.Given as goal

-- the rows before the index are read
abbrev pub invariant-loop-row : goal.invariant-loop-row
invariant-loop-row l = AllZip IsReceiptStoredAs (take l.row-index l.rows) l.receipts.items
