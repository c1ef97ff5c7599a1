use Rattle.sqlite.specs.Held.{state}
use Rattle.store_schema.specs.StoredPlans.{with_resource, resource_row}
use Rattle.store_schema.specs.declared.texts.TheConstants.{PUT_RESOURCE}
use Rattle.store_schema.proofs.Resources.{resource_put}
use Rattle.store_schema.specs.Columns.{resource_columns}
use Rattle.plan_writes.proofs.Growth.{rewrites_so}
use Rattle.plan_writes.proofs.Texts.{writes_resource}
use Rattle.plan_writes.proofs.resource_rows.put_resource.Goals as goal

pub returns-clause-written : goal.returns-clause-written
returns-clause-written g c =
    let old = state g.S.Store c.args.tx.now.conn.now in
    let new = state g.S.Store c.run_text.new.tx.conn.now in
    let x = resource_columns c.args.name.now c.args.available in
    rewrites_so (with_resource x) PUT_RESOURCE.now writes_resource (resource_row x) old new (resource_put old new x) c.run_text.result
    (λ clean inside. rw (c.letters.ensures, c.as_bytes.ensures.text, c.flag.ensures) at (c.run_text.ensures.runs clean inside))
    c.run_text.ensures.survives
