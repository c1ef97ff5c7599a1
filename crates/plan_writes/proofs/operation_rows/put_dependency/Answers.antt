use Rattle.sqlite.specs.Held.{state}
use Rattle.store_schema.specs.StoredPlans.{with_dependency, dependency_row}
use Rattle.store_schema.specs.declared.texts.TheConstants.{PUT_DEPENDENCY}
use Rattle.store_schema.proofs.Dependencies.{dependency_put}
use Rattle.store_schema.specs.Columns.{dependency_columns}
use Rattle.plan_writes.proofs.Growth.{rewrites_so}
use Rattle.plan_writes.proofs.Texts.{writes_dependency}
use Rattle.plan_writes.proofs.operation_rows.put_dependency.Goals as goal

pub returns-clause-written : goal.returns-clause-written
returns-clause-written g c =
    let old = state g.S.Store c.args.tx.now.conn.now in
    let new = state g.S.Store c.run_text.new.tx.conn.now in
    let x = dependency_columns c.args.predecessor.now c.args.successor.now in
    rewrites_so (with_dependency x) PUT_DEPENDENCY.now writes_dependency (dependency_row x) old new (dependency_put old new x) c.run_text.result
    (λ clean inside. rw (c.letters.ensures, c.as_bytes.ensures.text, c.minute.ensures, c.number.ensures, c.from.ensures, c.letters-2.ensures, c.as_bytes-2.ensures.text, c.minute-2.ensures, c.number-2.ensures, c.from-2.ensures) at (c.run_text.ensures.runs clean inside))
    c.run_text.ensures.survives
