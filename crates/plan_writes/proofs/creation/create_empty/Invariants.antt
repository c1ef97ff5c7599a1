use Rattle.std.proofs.Common.{◌≡◌, drop, map}
use Rattle.sqlite.specs.Held.{state}
use Rattle.store_schema.specs.Tables.{no_schema}
use Rattle.store_schema.specs.Schema.{desk_schema}
use Rattle.plan_writes.proofs.Making.{RunsOn}
use Rattle.plan_writes.proofs.creation.create_empty.Given as goal

abbrev pub invariant-loop-text : goal.invariant-loop-text
invariant-loop-text g l =
    (l.tx.conn.ghost_name ≡ l.fn.tx.conn.ghost_name)
    × RunsOn no_schema desk_schema (map (λ t. t.now) (drop l.text-index l.text-items)) (state g.S.Store l.fn.tx.conn.now) (state g.S.Store l.tx.conn.now)
