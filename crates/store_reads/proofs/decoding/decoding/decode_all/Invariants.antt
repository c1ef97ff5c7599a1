use Rattle.std.proofs.Common.{take}
use Rattle.store_reads.specs.Rows.{AppendsRows}
use Rattle.store_reads.proofs.decoding.decoding.decode_all.Given as goal

-- the rows before the index are appended
abbrev pub invariant-loop-row : goal.invariant-loop-row
invariant-loop-row l = AppendsRows l.table (take l.row-index l.rows) l.fn.into.items l.into.items
