use Rattle.std.proofs.Common.{◌<◌, arith, rules, sym, ap, subst, ◌∙◌, Some}
use Rattle.plan_basics.specs.Intervals.{OpenInterval}
use Rattle.plan_reasons.specs.Reasons.{IsNextOpening}
use Rattle.plan_reasons.proofs.Openings.{first_after, none_after}
use Rattle.plan_reasons.proofs.lacking.next_opening.Goals as goal

pub returns-then-gt : goal.returns-then-gt
returns-then-gt c =
    let ws = c.args.workstation.now.1 in
    let items = c.intervals-interval-items.result.now in
    let i = c.loop-interval.interval-index in
    let item = c.interval-item.result in
    let after : c.args.at < item.from = search rules in
    subst (λ n. IsNextOpening ws c.args.at (Some n)) (ap (λ (x : OpenInterval). x.from) (sym c.interval-item.is) ∙ sym c.from-from.ensures.value)
    (first_after ws items c.intervals-interval-items.ensures.intervals c.intervals-interval-items.ensures.in_order c.args.at i item c.loop-interval-test.true c.loop-interval.invariant
    (subst (λ (x : OpenInterval). c.args.at < x.from) c.interval-item.is after))

pub returns : goal.returns
returns c =
    let items = c.intervals-interval-items.result.now in
    let past = c.loop-interval-test.false in
    none_after c.args.workstation.now.1 items c.intervals-interval-items.ensures.intervals c.intervals-interval-items.ensures.in_order c.args.at (λ k e lt. c.loop-interval.invariant k e (omega (arith, lt, past)))
