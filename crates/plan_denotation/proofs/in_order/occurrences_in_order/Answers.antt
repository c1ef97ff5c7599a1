use Rattle.std.proofs.Common.{arith, rules}
use Rattle.plan_drafts.proofs.Keyed.{answered}
use Rattle.plan_denotation.proofs.in_order.occurrences_in_order.Goals as goal

pub returns : goal.returns
returns c =
    answered c.in_key_order.result (λ are. are.distinct)
    (λ v ordered. record { are = record { few = omega (arith, c.args.said.ok.0); distinct = ordered.distinct }; same = ordered.same; in_order = ordered.in_order })
    (c.in_key_order.ensures (λ row. row.0) (λ x r h. search rules))
