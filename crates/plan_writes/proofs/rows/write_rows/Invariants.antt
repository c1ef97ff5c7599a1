use Rattle.std.proofs.Common.{◌≡◌, drop}
use Rattle.sqlite.specs.Held.{state}
use Rattle.store_schema.specs.WrittenTables.{with_rows}
use Rattle.plan_writes.proofs.Lists.{RunsOn}
use Rattle.plan_writes.proofs.rows.write_rows.Given as goal

abbrev pub invariant-loop-row : goal.invariant-loop-row
invariant-loop-row g l =
    (l.tx.conn.ghost_name ≡ l.fn.tx.conn.ghost_name)
    × RunsOn with_rows l.rows (drop l.row-index l.rows) (state g.S.Store l.fn.tx.conn.now) (state g.S.Store l.tx.conn.now)
