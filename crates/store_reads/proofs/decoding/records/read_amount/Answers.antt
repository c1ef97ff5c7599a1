use Rattle.std.proofs.Common.{◌≡◌, ◌∷◌, [], length, refl, ◌∙◌, arith}
use Rattle.store_schema.specs.StoredPlans.{amount_row}
use Rattle.store_schema.specs.Columns.{amount_columns}
use Rattle.store_reads.proofs.RecordLaws.{at, whole, no_amount}
use Rattle.store_reads.proofs.decoding.records.read_amount.Goals as goal

pub returns-in_err-amount : goal.returns-in_err-amount
returns-in_err-amount c = rw c.from_residual-in_err-amount.ensures (no_amount c.args.row.now (λ o r n legal is. c.in_err-amount.ensures n (omega (arith, legal.2), at c.args.row.now (amount_row (amount_columns o r n)) 4 is)))

pub returns : goal.returns
returns c =
    let o = c.in_ok-op.ensures in
    (refl, (o.0, c.in_ok-resource.ensures.0, c.in_ok-amount.ensures.0), whole 5 c.args.row.now (let long : c.column_count.result ≡ length c.args.row.now = c.column_count.ensures in omega (arith, c.if-column_count-ne6.false, long)) ∙ (λ i. c.in_ok-op.ensures.1 i ∷ c.in_ok-op.ensures.2 i ∷ c.in_ok-op.ensures.3 i ∷ c.in_ok-resource.ensures.1 i ∷ c.in_ok-amount.ensures.1 i ∷ []))
