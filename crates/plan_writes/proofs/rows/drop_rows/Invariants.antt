use Rattle.std.proofs.Common.{◌≡◌, drop}
use Rattle.sqlite.specs.Held.{state}
use Rattle.store_schema.specs.WrittenTables.{without_rows}
use Rattle.plan_writes.proofs.Lists.{RunsOn}
use Rattle.plan_writes.proofs.rows.drop_rows.Given as goal

abbrev pub invariant-loop-key : goal.invariant-loop-key
invariant-loop-key g l =
    (l.tx.conn.ghost_name ≡ l.fn.tx.conn.ghost_name)
    × RunsOn without_rows l.gone (drop l.key-index l.gone) (state g.S.Store l.fn.tx.conn.now) (state g.S.Store l.tx.conn.now)
