use Rattle.sqlite.specs.Held.{state}
use Rattle.store_schema.specs.StoredPlans.{with_amount, amount_row}
use Rattle.store_schema.specs.declared.texts.TheConstants.{PUT_AMOUNT}
use Rattle.store_schema.proofs.Amounts.{amount_put}
use Rattle.store_schema.specs.Columns.{amount_columns}
use Rattle.plan_writes.proofs.Growth.{rewrites_so}
use Rattle.plan_writes.proofs.Texts.{writes_amount}
use Rattle.plan_writes.proofs.quantity_rows.put_amount.Goals as goal

pub returns-clause-written : goal.returns-clause-written
returns-clause-written g c =
    let old = state g.S.Store c.args.tx.now.conn.now in
    let new = state g.S.Store c.run_text.new.tx.conn.now in
    let x = amount_columns c.args.op.now c.args.resource.now c.args.amount in
    rewrites_so (with_amount x) PUT_AMOUNT.now writes_amount (amount_row x) old new (amount_put old new x) c.run_text.result
    (λ clean inside. rw (c.letters.ensures, c.as_bytes.ensures.text, c.minute.ensures, c.number.ensures, c.from.ensures, c.letters-2.ensures, c.as_bytes-2.ensures.text, c.number-2.ensures) at (c.run_text.ensures.runs clean inside))
    c.run_text.ensures.survives
