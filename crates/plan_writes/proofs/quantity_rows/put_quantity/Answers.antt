use Rattle.sqlite.specs.Held.{state}
use Rattle.store_schema.specs.StoredPlans.{with_quantity, quantity_row}
use Rattle.store_schema.specs.declared.texts.TheConstants.{PUT_QUANTITY}
use Rattle.store_schema.proofs.Quantities.{quantity_put}
use Rattle.store_schema.specs.Columns.{quantity_columns}
use Rattle.plan_writes.proofs.Growth.{rewrites_so}
use Rattle.plan_writes.proofs.Texts.{writes_quantity}
use Rattle.plan_writes.proofs.quantity_rows.put_quantity.Goals as goal

pub returns-clause-written : goal.returns-clause-written
returns-clause-written g c =
    let old = state g.S.Store c.args.tx.now.conn.now in
    let new = state g.S.Store c.run_text.new.tx.conn.now in
    let x = quantity_columns c.args.resource.now c.args.quantity in
    rewrites_so (with_quantity x) PUT_QUANTITY.now writes_quantity (quantity_row x) old new (quantity_put old new x) c.run_text.result
    (λ clean inside. rw (c.letters.ensures, c.as_bytes.ensures.text, c.number.ensures) at (c.run_text.ensures.runs clean inside))
    c.run_text.ensures.survives
