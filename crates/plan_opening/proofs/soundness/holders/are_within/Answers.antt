use Rattle.std.proofs.Common.{◌≤◌, ap, arith, true≢false, refl, sym, ◌+◌}
use Rattle.special_resources.specs.declared.holders.Holder.{Holder}
use Rattle.plan_opening.proofs.HeldAmounts.{held_all, held_more, held_most, held_of}
use Rattle.plan_opening.proofs.soundness.holders.are_within.Goals as goal

pub returns-then-left-holder : goal.returns-then-left-holder
returns-then-left-holder c = (
  λ never. absurd (true≢false (sym never)),
  λ few.
      let items = c.args.holders.now in
      let i = c.loop-holder.holder-index in
      let more = held_more items i c.holder-item.result c.loop-holder-test.true in
      let this = ap (λ (h : Holder). h.claim.amount) c.holder-item.is in
      let most = held_most items (i + 1) in
      absurd (omega (arith, few, more, this, most, c.if-left-holder.true, c.loop-holder.invariant)),
)

pub loop-holder-preserved : goal.loop-holder-preserved
loop-holder-preserved c =
    let more = held_more c.args.holders.now c.loop-holder.holder-index c.holder-item.result c.loop-holder-test.true in
    let this = ap (λ (h : Holder). h.claim.amount) c.holder-item.is in
    omega (arith, more, this, c.if-left-holder.false, c.loop-holder.invariant)

pub returns : goal.returns
returns c =
    let items = c.args.holders.now in
    let all = held_all items c.loop-holder.holder-index c.loop-holder-test.false in
    let few : held_of items ≤ c.args.quantity = omega (arith, all, c.loop-holder.invariant) in
    (λ _. few, λ _. refl)
