use Rattle.sqlite.specs.Held.{state}
use Rattle.store_schema.specs.StoredPlans.{with_need, need_row}
use Rattle.store_schema.specs.declared.texts.TheConstants.{PUT_NEED}
use Rattle.store_schema.proofs.Needs.{need_put}
use Rattle.store_schema.specs.Columns.{need_columns}
use Rattle.plan_writes.proofs.Growth.{rewrites_so}
use Rattle.plan_writes.proofs.Texts.{writes_need}
use Rattle.plan_writes.proofs.resource_rows.put_need.Goals as goal

pub returns-clause-written : goal.returns-clause-written
returns-clause-written g c =
    let old = state g.S.Store c.args.tx.now.conn.now in
    let new = state g.S.Store c.run_text.new.tx.conn.now in
    let x = need_columns c.args.op.now c.args.resource.now c.args.mode c.args.keep in
    rewrites_so (with_need x) PUT_NEED.now writes_need (need_row x) old new (need_put old new x) c.run_text.result
    (λ clean inside. rw (c.letters.ensures, c.as_bytes.ensures.text, c.minute.ensures, c.number.ensures, c.from.ensures, c.letters-2.ensures, c.as_bytes-2.ensures.text, c.mode_text.ensures, c.keeping.ensures) at (c.run_text.ensures.runs clean inside))
    c.run_text.ensures.survives
