use Rattle.std.proofs.Common.{◌∙◌}
use Rattle.sqlite.specs.Held.{state}
use Rattle.store_schema.specs.StoredPlans.{with_receipt}
use Rattle.store_schema.specs.Receipts.{stored_receipt, written_numbered}
use Rattle.store_schema.specs.WrittenTables.{written}
use Rattle.plan_writes.specs.Within.{Rewrites}
use Rattle.plan_writes.proofs.Within.{as_err, then_runs}
use Rattle.plan_writes.proofs.numbered.write_with_receipt.Goals as goal

pub returns-in_err-write_and_drop-clause-written : goal.returns-in_err-write_and_drop-clause-written
returns-in_err-write_and_drop-clause-written g c =
    as_err (Rewrites (written c.args.rows.now c.args.gone.now)) (Rewrites (written_numbered c.args.rows.now c.args.gone.now c.args.receipt.now)) (state g.S.Store c.args.tx.now.conn.now) (state g.S.Store c.write_and_drop.new.tx.conn.now)
    c.in_err-write_and_drop.field-0.0 c.from_residual.result c.from_residual.ensures.0 c.in_err-write_and_drop.ensures.written

pub returns-clause-written : goal.returns-clause-written
returns-clause-written g c =
    let Rows = Rewrites (written c.args.rows.now c.args.gone.now) in
    let Receipt = Rewrites (with_receipt (stored_receipt c.args.receipt.now)) in
    let Both = Rewrites (written_numbered c.args.rows.now c.args.gone.now c.args.receipt.now) in
    then_runs Rows Receipt Both (state g.S.Store c.args.tx.now.conn.now) (state g.S.Store c.write_and_drop.new.tx.conn.now) (state g.S.Store c.put_receipt.new.tx.conn.now) c.in_ok-write_and_drop.ensures.written
    (λ before between after one two. record { turns = λ held was. two.turns _ (one.turns held was); schema_stays = two.schema_stays ∙ one.schema_stays }) c.put_receipt.result c.put_receipt.ensures.written
