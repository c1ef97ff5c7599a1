use Rattle.std.proofs.Common.{pos, ◌∷◌, []}
use Rattle.sqlite.specs.Held.{state}
use Rattle.sqlite.specs.declared.types.Value.TheVariants.{Text, Int}
use Rattle.store_schema.specs.declared.texts.TheConstants.{DROP_AMOUNT}
use Rattle.store_schema.proofs.Amounts.{amount_dropped}
use Rattle.store_schema.specs.WrittenTables.{without_row}
use Rattle.store_schema.specs.plan_drafts.specs.declared.RowKey.TheVariants as key
use Rattle.plan_writes.proofs.Growth.{rewrites_so}
use Rattle.plan_writes.proofs.Texts.{drops_amount}
use Rattle.plan_writes.proofs.quantity_rows.drop_amount.Goals as goal

pub returns-clause-written : goal.returns-clause-written
returns-clause-written g c =
    let old = state g.S.Store c.args.tx.now.conn.now in
    let new = state g.S.Store c.run_text.new.tx.conn.now in
    let o = c.args.op.now in
    let r = c.args.resource.now in
    rewrites_so (without_row (key.Amount o r)) DROP_AMOUNT.now drops_amount (Text o.occurrence.app ∷ Int (pos o.occurrence.arrival) ∷ Int (pos o.number) ∷ Text r ∷ []) old new (amount_dropped old new o.occurrence.app (pos o.occurrence.arrival) (pos o.number) r) c.run_text.result
    (λ clean inside. rw (c.letters.ensures, c.as_bytes.ensures.text, c.minute.ensures, c.number.ensures, c.from.ensures, c.letters-2.ensures, c.as_bytes-2.ensures.text) at (c.run_text.ensures.runs clean inside))
    c.run_text.ensures.survives
