use Rattle.sqlite.specs.Held.{state}
use Rattle.store_schema.specs.StoredPlans.{with_occurrence, occurrence_row}
use Rattle.store_schema.specs.declared.texts.TheConstants.{PUT_OCCURRENCE}
use Rattle.store_schema.proofs.Occurrences.{occurrence_put}
use Rattle.store_schema.specs.Columns.{occurrence_columns}
use Rattle.plan_writes.proofs.Growth.{rewrites_so}
use Rattle.plan_writes.proofs.Texts.{writes_occurrence}
use Rattle.plan_writes.proofs.operation_rows.put_occurrence.Goals as goal

pub returns-clause-written : goal.returns-clause-written
returns-clause-written g c =
    let old = state g.S.Store c.args.tx.now.conn.now in
    let new = state g.S.Store c.run_text.new.tx.conn.now in
    let x = occurrence_columns c.args.occurrence.now c.args.priority c.args.deadline c.args.status in
    rewrites_so (with_occurrence x) PUT_OCCURRENCE.now writes_occurrence (occurrence_row x) old new (occurrence_put old new x) c.run_text.result
    (λ clean inside. rw (c.letters.ensures, c.as_bytes.ensures.text, c.minute.ensures, c.number.ensures, c.from.ensures, c.minute-2.ensures, c.letters-2.ensures, c.letter.ensures) at (c.run_text.ensures.runs clean inside))
    c.run_text.ensures.survives
