use Rattle.std.proofs.Common.{[]}
use Rattle.sqlite.specs.Held.{state}
use Rattle.store_schema.specs.Schema.{quantity, first_schema}
use Rattle.store_schema.specs.declared.texts.TheConstants.{CREATE_QUANTITY}
use Rattle.plan_writes.specs.Upgrading.{Adds}
use Rattle.plan_writes.proofs.AllTables.{quantity_is_made}
use Rattle.plan_writes.proofs.Upgraded.{adds_named, adds_so}
use Rattle.plan_writes.proofs.Within.{executed}
use Rattle.plan_writes.proofs.upgrade.add_quantity.Goals as goal

pub returns-clause-made : goal.returns-clause-made
returns-clause-made g c =
    let old = state g.S.Store c.args.tx.now.conn.now in
    let new = state g.S.Store c.run_text.new.tx.conn.now in
    executed (Adds first_schema quantity) CREATE_QUANTITY.now [] old new c.run_text.result (adds_so first_schema quantity CREATE_QUANTITY.now quantity_is_made old new c.run_text.result) c.run_text.ensures.runs c.run_text.ensures.survives

pub returns-clause-names : goal.returns-clause-names
returns-clause-names g c = adds_named first_schema quantity CREATE_QUANTITY.now quantity_is_made (state g.S.Store c.args.tx.now.conn.now) (state g.S.Store c.run_text.new.tx.conn.now) c.run_text.result c.run_text.ensures.runs
