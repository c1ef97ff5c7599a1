use Rattle.std.proofs.Common.{◌≡◌, ◌∷◌, [], length, refl, ◌∙◌, arith}
use Rattle.store_reads.proofs.RecordLaws.{whole}
use Rattle.store_reads.proofs.decoding.records.read_occurrence.Goals as goal

pub returns : goal.returns
returns c =
    (refl, (c.in_ok-occurrence.ensures.0, c.in_ok-priority.ensures.0, c.in_ok-deadline.ensures.0), whole 5 c.args.row.now (let long : c.column_count.result ≡ length c.args.row.now = c.column_count.ensures in omega (arith, c.if-column_count-ne6.false, long)) ∙ (λ i. c.in_ok-occurrence.ensures.1 i ∷ c.in_ok-occurrence.ensures.2 i ∷ c.in_ok-priority.ensures.1 i ∷ c.in_ok-deadline.ensures.1 i ∷ c.in_ok-status.ensures i ∷ []))
