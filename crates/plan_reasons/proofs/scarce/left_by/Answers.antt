use Rattle.std.proofs.Common.{◌-◌, ap, arith, ◌∙◌}
use Rattle.special_resources.proofs.Amounts.{taken_all, taken_more}
use Rattle.special_resources.specs.Holdings.{amount_beside}
use Rattle.plan_reasons.proofs.scarce.left_by.Goals as goal

pub loop-holder-preserved : goal.loop-holder-preserved
loop-holder-preserved c =
    let o = c.args.key.now in
    let more = taken_more o c.args.holders.now c.loop-holder.holder-index c.holder-item.result c.loop-holder-test.true in
    let this = c.amount_beside.ensures ∙ ap (amount_beside o) c.holder-item.is in
    omega (arith, more, this, c.saturating_sub-left.ensures, c.loop-holder.invariant)

pub returns : goal.returns
returns c = c.loop-holder.invariant ∙ ap (λ n. c.args.quantity - n) (taken_all c.args.key.now c.args.holders.now c.loop-holder.holder-index c.loop-holder-test.false)
