use Rattle.std.proofs.Common.{refl, ◌∙◌}
use Rattle.sqlite.specs.Held.{state}
use Rattle.store_schema.specs.WrittenTables.{without_row, without_rows}
use Rattle.plan_writes.proofs.Lists.{set_out, goes_on, breaks_off, arrives}
use Rattle.plan_writes.proofs.rows.drop_rows.Goals as goal

pub loop-key-init : goal.loop-key-init
loop-key-init g c = (refl, set_out without_row without_rows (λ held. refl) (λ x xs held. refl) c.args.gone.now (state g.S.Store c.args.tx.now.conn.now))

pub loop-key-preserved : goal.loop-key-preserved
loop-key-preserved g c = (
  c.drop_row.ensures.same_reference ∙ c.loop-key.invariant.0,
  goes_on without_row without_rows (λ held. refl) (λ x xs held. refl) c.args.gone.now c.loop-key.key-index c.key-item.result c.loop-key-test.true c.key-item.is (state g.S.Store c.args.tx.now.conn.now) (state g.S.Store c.loop-key.tx.conn.now) (state g.S.Store c.drop_row.new.tx.conn.now) c.loop-key.invariant.1 c.in_ok-drop_row.ensures.written,
)

pub returns-in_err-drop_row-clause-written : goal.returns-in_err-drop_row-clause-written
returns-in_err-drop_row-clause-written g c =
    breaks_off without_row without_rows (λ held. refl) (λ x xs held. refl) c.args.gone.now c.loop-key.key-index c.key-item.result (state g.S.Store c.args.tx.now.conn.now) (state g.S.Store c.loop-key.tx.conn.now) (state g.S.Store c.drop_row.new.tx.conn.now)
    c.in_err-drop_row.field-0.0 c.from_residual.result c.from_residual.ensures.0 c.loop-key.invariant.1 c.in_err-drop_row.ensures.written

pub returns-clause-written : goal.returns-clause-written
returns-clause-written g c = arrives without_row without_rows (λ held. refl) (λ x xs held. refl) c.args.gone.now c.loop-key.key-index c.loop-key-test.false (state g.S.Store c.args.tx.now.conn.now) (state g.S.Store c.loop-key.tx.conn.now) c.loop-key.invariant.1
