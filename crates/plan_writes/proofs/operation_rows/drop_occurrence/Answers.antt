use Rattle.std.proofs.Common.{pos, ◌∷◌, []}
use Rattle.sqlite.specs.Held.{state}
use Rattle.sqlite.specs.declared.types.Value.TheVariants.{Text, Int}
use Rattle.store_schema.specs.declared.texts.TheConstants.{DROP_OCCURRENCE}
use Rattle.store_schema.proofs.Occurrences.{occurrence_dropped}
use Rattle.store_schema.specs.WrittenTables.{without_row}
use Rattle.store_schema.specs.plan_drafts.specs.declared.RowKey.TheVariants as key
use Rattle.plan_writes.proofs.Growth.{rewrites_so}
use Rattle.plan_writes.proofs.Texts.{drops_occurrence}
use Rattle.plan_writes.proofs.operation_rows.drop_occurrence.Goals as goal

pub returns-clause-written : goal.returns-clause-written
returns-clause-written g c =
    let old = state g.S.Store c.args.tx.now.conn.now in
    let new = state g.S.Store c.run_text.new.tx.conn.now in
    let k = c.args.occurrence.now in
    rewrites_so (without_row (key.Occurrence k)) DROP_OCCURRENCE.now drops_occurrence (Text k.app ∷ Int (pos k.arrival) ∷ []) old new (occurrence_dropped old new k.app (pos k.arrival)) c.run_text.result
    (λ clean inside. rw (c.letters.ensures, c.as_bytes.ensures.text, c.minute.ensures) at (c.run_text.ensures.runs clean inside))
    c.run_text.ensures.survives
