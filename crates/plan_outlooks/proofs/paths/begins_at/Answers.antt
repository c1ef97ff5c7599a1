use Rattle.std.proofs.Common.{rules, ◌≡◌, refl, subst, arith, false, true}
use Rattle.plan_basics.specs.Intervals.{OpenInterval}
use Rattle.plan_reasons.specs.Reasons.{BeginsAt}
use Rattle.plan_outlooks.proofs.Deciding.{not_by, so_by}
use Rattle.plan_outlooks.proofs.IntervalsNeeds.{opened_here, opened_never}
use Rattle.plan_outlooks.proofs.paths.begins_at.Goals as goal

pub returns-then-eq : goal.returns-then-eq
returns-then-eq c =
    let ws = c.args.workstation.now.1 in
    let items = c.intervals-interval-items.result.now in
    let item = c.interval-item.result in
    let same : item.from ≡ c.args.moment = search rules in
    so_by (BeginsAt ws c.args.moment) true refl
    (opened_here ws items c.intervals-interval-items.ensures.intervals c.args.moment c.intervals-interval-items.ensures.in_order c.loop-interval.interval-index item c.loop-interval-test.true
    (subst (λ (x : OpenInterval). x.from ≡ c.args.moment) c.interval-item.is same))

pub returns : goal.returns
returns c =
    let ws = c.args.workstation.now.1 in
    let items = c.intervals-interval-items.result.now in
    let past = c.loop-interval-test.false in
    not_by (BeginsAt ws c.args.moment) false refl (opened_never ws items c.intervals-interval-items.ensures.intervals c.args.moment (λ k d lt. c.loop-interval.invariant k d (omega (arith, lt, past))))
