use Rattle.std.proofs.Common.{◌≡◌, None, drop}
use Rattle.store_reads.specs.Reads.{rise_above}
use Rattle.store_reads.proofs.tables.rising.rowids_rise.Given as goal

-- the rows from the index on decide it
abbrev pub invariant-loop-row : goal.invariant-loop-row
invariant-loop-row l = rise_above None l.rows ≡ rise_above l.last (drop l.row-index l.rows)
