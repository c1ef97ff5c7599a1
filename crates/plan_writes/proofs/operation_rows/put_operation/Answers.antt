use Rattle.sqlite.specs.Held.{state}
use Rattle.store_schema.specs.StoredPlans.{with_operation, operation_row}
use Rattle.store_schema.specs.declared.texts.TheConstants.{PUT_OPERATION}
use Rattle.store_schema.proofs.Operations.{operation_put}
use Rattle.store_schema.specs.Columns.{operation_columns}
use Rattle.plan_writes.proofs.Growth.{rewrites_so}
use Rattle.plan_writes.proofs.Texts.{writes_operation}
use Rattle.plan_writes.proofs.operation_rows.put_operation.Goals as goal

pub returns-clause-written : goal.returns-clause-written
returns-clause-written g c =
    let old = state g.S.Store c.args.tx.now.conn.now in
    let new = state g.S.Store c.run_text.new.tx.conn.now in
    let x = operation_columns c.args.row.now in
    rewrites_so (with_operation x) PUT_OPERATION.now writes_operation (operation_row x) old new (operation_put old new x) c.run_text.result
    (λ clean inside. rw (c.letters.ensures, c.as_bytes.ensures.text, c.minute.ensures, c.number.ensures, c.from.ensures, c.letters-2.ensures, c.as_bytes-2.ensures.text, c.number-2.ensures, c.from-2.ensures, c.number-3.ensures, c.from-3.ensures, c.number-4.ensures, c.from-4.ensures, c.minute-2.ensures, c.minute-3.ensures, c.text-2.ensures, c.text.ensures, c.letters-3.ensures, c.code_text.ensures, c.flag.ensures, c.flag-2.ensures, c.letters-4.ensures, c.letter.ensures, c.int.ensures, c.number-5.ensures) at (c.run_text.ensures.runs clean inside))
    c.run_text.ensures.survives
