use Rattle.sqlite.specs.Held.{state}
use Rattle.std.proofs.Common.{◌∙◌}
use Rattle.plan_writes.specs.Within.{Rewrites}
use Rattle.store_schema.specs.WrittenTables.{with_rows, without_rows, written}
use Rattle.plan_writes.proofs.Within.{then_runs, as_err}
use Rattle.plan_writes.proofs.rows.write_and_drop.Goals as goal

pub returns-in_err-write_rows-clause-written : goal.returns-in_err-write_rows-clause-written
returns-in_err-write_rows-clause-written g c =
    as_err (Rewrites (with_rows c.args.rows.now)) (Rewrites (written c.args.rows.now c.args.gone.now)) (state g.S.Store c.args.tx.now.conn.now) (state g.S.Store c.write_rows.new.tx.conn.now)
    c.in_err-write_rows.field-0.0 c.from_residual.result c.from_residual.ensures.0 c.in_err-write_rows.ensures.written

pub returns-clause-written : goal.returns-clause-written
returns-clause-written g c =
    then_runs (Rewrites (with_rows c.args.rows.now)) (Rewrites (without_rows c.args.gone.now)) (Rewrites (written c.args.rows.now c.args.gone.now)) (state g.S.Store c.args.tx.now.conn.now) (state g.S.Store c.write_rows.new.tx.conn.now) (state g.S.Store c.drop_rows.new.tx.conn.now)
    c.in_ok-write_rows.ensures.written (λ before between after one two. record { turns = λ held was. two.turns _ (one.turns held was); schema_stays = two.schema_stays ∙ one.schema_stays }) c.drop_rows.result c.drop_rows.ensures.written
