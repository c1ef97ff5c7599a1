use Rattle.std.proofs.Common.{refl, ◌∙◌}
use Rattle.sqlite.specs.Held.{state}
use Rattle.store_schema.specs.WrittenTables.{with_row, with_rows}
use Rattle.plan_writes.proofs.Lists.{set_out, goes_on, breaks_off, arrives}
use Rattle.plan_writes.proofs.rows.write_rows.Goals as goal

pub loop-row-init : goal.loop-row-init
loop-row-init g c = (refl, set_out with_row with_rows (λ held. refl) (λ x xs held. refl) c.args.rows.now (state g.S.Store c.args.tx.now.conn.now))

pub loop-row-preserved : goal.loop-row-preserved
loop-row-preserved g c = (
  c.write_row.ensures.same_reference ∙ c.loop-row.invariant.0,
  goes_on with_row with_rows (λ held. refl) (λ x xs held. refl) c.args.rows.now c.loop-row.row-index c.row-item.result c.loop-row-test.true c.row-item.is (state g.S.Store c.args.tx.now.conn.now) (state g.S.Store c.loop-row.tx.conn.now) (state g.S.Store c.write_row.new.tx.conn.now) c.loop-row.invariant.1 c.in_ok-write_row.ensures.written,
)

pub returns-in_err-write_row-clause-written : goal.returns-in_err-write_row-clause-written
returns-in_err-write_row-clause-written g c =
    breaks_off with_row with_rows (λ held. refl) (λ x xs held. refl) c.args.rows.now c.loop-row.row-index c.row-item.result (state g.S.Store c.args.tx.now.conn.now) (state g.S.Store c.loop-row.tx.conn.now) (state g.S.Store c.write_row.new.tx.conn.now)
    c.in_err-write_row.field-0.0 c.from_residual.result c.from_residual.ensures.0 c.loop-row.invariant.1 c.in_err-write_row.ensures.written

pub returns-clause-written : goal.returns-clause-written
returns-clause-written g c = arrives with_row with_rows (λ held. refl) (λ x xs held. refl) c.args.rows.now c.loop-row.row-index c.loop-row-test.false (state g.S.Store c.args.tx.now.conn.now) (state g.S.Store c.loop-row.tx.conn.now) c.loop-row.invariant.1
