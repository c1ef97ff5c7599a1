use Rattle.sqlite.specs.Held.{state}
use Rattle.store_schema.specs.StoredPlans.{with_interval, interval_row}
use Rattle.store_schema.specs.declared.texts.TheConstants.{PUT_INTERVAL}
use Rattle.store_schema.proofs.Intervals.{interval_put}
use Rattle.store_schema.specs.Columns.{interval_columns}
use Rattle.plan_writes.proofs.Growth.{rewrites_so}
use Rattle.plan_writes.proofs.Texts.{writes_interval}
use Rattle.plan_writes.proofs.workstation_rows.put_interval.Goals as goal

pub returns-clause-written : goal.returns-clause-written
returns-clause-written g c =
    let old = state g.S.Store c.args.tx.now.conn.now in
    let new = state g.S.Store c.run_text.new.tx.conn.now in
    let x = interval_columns c.args.ws.now c.args.interval.now in
    rewrites_so (with_interval x) PUT_INTERVAL.now writes_interval (interval_row x) old new (interval_put old new x) c.run_text.result
    (λ clean inside. rw (c.letters.ensures, c.as_bytes.ensures.text, c.minute.ensures, c.from.ensures.value, c.minute-2.ensures, c.end.ensures.value, c.number.ensures, c.from-2.ensures, c.servers.ensures, c.number-2.ensures, c.from-3.ensures, c.r1.ensures, c.number-3.ensures, c.from-4.ensures, c.r2.ensures) at (c.run_text.ensures.runs clean inside))
    c.run_text.ensures.survives
