use Rattle.std.proofs.Common.{◌≡◌, ◌∙◌, FitsSigned, ap, arith, of_z, rules, to_z, w64}
use Rattle.std.proofs.lemmas.Int.{ints}
use Rattle.sqlite.specs.Held.{state}
use Rattle.sqlite.specs.declared.types.Value.TheVariants.{Int}
use Rattle.store_schema.specs.StoredPlans.{with_receipt, receipt_row}
use Rattle.store_schema.specs.declared.texts.TheConstants.{PUT_RECEIPT}
use Rattle.store_schema.proofs.Receipts.{receipt_put}
use Rattle.store_schema.specs.Receipts.{stored_receipt}
use Rattle.plan_writes.proofs.Growth.{rewrites_so}
use Rattle.plan_writes.proofs.Texts.{writes_receipt}
use Rattle.plan_writes.proofs.receipt_rows.put_receipt.Goals as goal

pub returns-clause-written : goal.returns-clause-written
returns-clause-written g c =
    let old = state g.S.Store c.args.tx.now.conn.now in
    let new = state g.S.Store c.run_text.new.tx.conn.now in
    let x = stored_receipt c.args.receipt.now in
    let number = c.number-number.result in
    let fits : FitsSigned w64 number = search rules in
    let same : to_z w64 (of_z w64 number) ≡ number = omega (arith, ints, fits) in
    rewrites_so (with_receipt x) PUT_RECEIPT.now writes_receipt (receipt_row x) old new (receipt_put old new x) c.run_text.result
    (λ clean inside. rw (c.letters.ensures, c.tracker_name.ensures, c.int.ensures ∙ ap Int (same ∙ c.number-number.ensures), c.blob.ensures, c.text.ensures, c.letters-2.ensures, c.reply.ensures) at (c.run_text.ensures.runs clean inside))
    c.run_text.ensures.survives
