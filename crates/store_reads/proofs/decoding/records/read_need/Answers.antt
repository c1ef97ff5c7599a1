use Rattle.std.proofs.Common.{◌≡◌, ◌∷◌, [], length, refl, ◌∙◌, arith}
use Rattle.store_reads.proofs.RecordLaws.{whole}
use Rattle.store_reads.proofs.decoding.records.read_need.Goals as goal

pub returns : goal.returns
returns c =
    let o = c.in_ok-op.ensures in
    (refl, (o.0, c.in_ok-resource.ensures.0), whole 6 c.args.row.now (let long : c.column_count.result ≡ length c.args.row.now = c.column_count.ensures in omega (arith, c.if-column_count-ne7.false, long)) ∙ (λ i. c.in_ok-op.ensures.1 i ∷ c.in_ok-op.ensures.2 i ∷ c.in_ok-op.ensures.3 i ∷ c.in_ok-resource.ensures.1 i ∷ c.in_ok-mode.ensures i ∷ c.in_ok-keep.ensures i ∷ []))
