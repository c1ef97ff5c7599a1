use Rattle.std.proofs.Common.{take}
use Rattle.sqlite.specs.Held.{state}
use Rattle.store_reads.proofs.Reading.{IsReadSoFar}
use Rattle.store_reads.proofs.tables.rows.read_tables.Given as goal

-- the tables before the index are read
abbrev pub invariant-loop-table : goal.invariant-loop-table
invariant-loop-table g l = IsReadSoFar (state g.S.Store l.fn.conn) (state g.S.Store l.conn) (take l.table-index l.tables) l.rows.items
