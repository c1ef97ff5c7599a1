use Rattle.sqlite.specs.Held.{state}
use Rattle.store_schema.specs.StoredPlans.{with_workstation, workstation_row}
use Rattle.store_schema.specs.declared.texts.TheConstants.{PUT_WORKSTATION}
use Rattle.store_schema.proofs.Workstations.{workstation_put}
use Rattle.store_schema.specs.Columns.{workstation_columns}
use Rattle.plan_writes.proofs.Growth.{rewrites_so}
use Rattle.plan_writes.proofs.Texts.{writes_workstation}
use Rattle.plan_writes.proofs.workstation_rows.put_workstation.Goals as goal

pub returns-clause-written : goal.returns-clause-written
returns-clause-written g c =
    let old = state g.S.Store c.args.tx.now.conn.now in
    let new = state g.S.Store c.run_text.new.tx.conn.now in
    let x = workstation_columns c.args.name.now c.args.attr in
    rewrites_so (with_workstation x) PUT_WORKSTATION.now writes_workstation (workstation_row x) old new (workstation_put old new x) c.run_text.result
    (λ clean inside. rw (c.letters.ensures, c.as_bytes.ensures.text, c.letters-2.ensures, c.letter.ensures) at (c.run_text.ensures.runs clean inside))
    c.run_text.ensures.survives
