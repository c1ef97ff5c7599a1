use Rattle.std.proofs.Common.{ap, arith, ◌∙◌}
use Rattle.std.proofs.lemmas.List.{take_all}
use Rattle.std.proofs.lemmas.List.Sums.{sum_by_more}
use Rattle.plan_shows.specs.Resources.{left_by}
use Rattle.plan_shows.specs.declared.resources.HolderView.{HolderView}
use Rattle.plan_shows.proofs.resources.left_by.Goals as goal

pub loop-holder-preserved : goal.loop-holder-preserved
loop-holder-preserved c =
    let more = sum_by_more (λ (h : HolderView). h.amount) c.args.holders.now c.loop-holder.holder-index c.holder-item.result c.loop-holder-test.true in
    let this = ap (λ (h : HolderView). h.amount) c.holder-item.is in
    omega (arith, more, this, c.saturating_sub-left.ensures, c.loop-holder.invariant)

pub returns : goal.returns
returns c = c.loop-holder.invariant ∙ ap (left_by c.args.quantity) (take_all c.loop-holder.holder-index c.args.holders.now c.loop-holder-test.false)
