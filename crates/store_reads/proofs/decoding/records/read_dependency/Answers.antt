use Rattle.std.proofs.Common.{◌≡◌, ◌∷◌, [], length, refl, ◌∙◌, arith}
use Rattle.store_reads.proofs.RecordLaws.{whole}
use Rattle.store_reads.proofs.decoding.records.read_dependency.Goals as goal

pub returns : goal.returns
returns c =
    let p = c.in_ok-predecessor.ensures in
    let q = c.in_ok-successor.ensures in
    (refl, (p.0, q.0), whole 6 c.args.row.now (let long : c.column_count.result ≡ length c.args.row.now = c.column_count.ensures in omega (arith, c.if-column_count-ne7.false, long)) ∙ (λ i. p.1 i ∷ p.2 i ∷ p.3 i ∷ q.1 i ∷ q.2 i ∷ q.3 i ∷ []))
