use Rattle.std.proofs.Common.{pos, ◌∷◌, []}
use Rattle.sqlite.specs.Held.{state}
use Rattle.sqlite.specs.declared.types.Value.TheVariants.{Text, Int}
use Rattle.store_schema.specs.declared.texts.TheConstants.{DROP_INTERVAL}
use Rattle.store_schema.proofs.Intervals.{interval_dropped}
use Rattle.store_schema.specs.WrittenTables.{without_row}
use Rattle.store_schema.specs.plan_drafts.specs.declared.RowKey.TheVariants as key
use Rattle.plan_writes.proofs.Growth.{rewrites_so}
use Rattle.plan_writes.proofs.Texts.{drops_interval}
use Rattle.plan_writes.proofs.workstation_rows.drop_interval.Goals as goal

pub returns-clause-written : goal.returns-clause-written
returns-clause-written g c =
    let old = state g.S.Store c.args.tx.now.conn.now in
    let new = state g.S.Store c.run_text.new.tx.conn.now in
    let w = c.args.ws.now in
    let from = c.args.from in
    rewrites_so (without_row (key.Interval w from)) DROP_INTERVAL.now drops_interval (Text w ∷ Int (pos from) ∷ []) old new (interval_dropped old new w (pos from)) c.run_text.result
    (λ clean inside. rw (c.letters.ensures, c.as_bytes.ensures.text, c.minute.ensures) at (c.run_text.ensures.runs clean inside))
    c.run_text.ensures.survives
