use Rattle.std.proofs.Common.{◌∙◌, refl}
use Rattle.sqlite.specs.Held.{state}
use Rattle.store_schema.specs.Tables.{no_schema}
use Rattle.store_schema.specs.Schema.{desk_schema}
use Rattle.plan_writes.proofs.Making.{set_out, goes_on, finds_free}
use Rattle.plan_writes.proofs.AllTables.{all_lead}
use Rattle.plan_writes.proofs.creation.create_empty.Goals as goal

pub loop-text-init : goal.loop-text-init
loop-text-init g c = (refl, set_out no_schema desk_schema _ (state g.S.Store c.args.tx.now.conn.now) all_lead)

pub returns-in_err-run_text-clause-names : goal.returns-in_err-run_text-clause-names
returns-in_err-run_text-clause-names g c =
    finds_free (λ t. t.now) no_schema desk_schema _ c.loop-text.text-index c.loop-text-test.true (state g.S.Store c.args.tx.now.conn.now) (state g.S.Store c.loop-text.tx.conn.now) (state g.S.Store c.run_text.new.tx.conn.now) c.loop-text.invariant.1 _
    c.in_err-run_text.field-0.0 c.in_err-run_text.ensures.runs c.run_text.ensures.survives c.from_residual.result c.from_residual.ensures.1

pub loop-text-preserved : goal.loop-text-preserved
loop-text-preserved g c = (
  c.run_text.ensures.same_reference ∙ c.loop-text.invariant.0,
  goes_on (λ t. t.now) no_schema desk_schema _ c.loop-text.text-index c.loop-text-test.true (state g.S.Store c.args.tx.now.conn.now) (state g.S.Store c.loop-text.tx.conn.now) (state g.S.Store c.run_text.new.tx.conn.now) c.loop-text.invariant.1 _
      c.in_ok-run_text.ensures.runs c.run_text.ensures.survives,
)
