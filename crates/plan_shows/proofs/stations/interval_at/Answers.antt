use Rattle.std.proofs.Common.{arith, rules}
use Rattle.plan_basics.specs.Intervals.{IsOpenAt}
use Rattle.plan_shows.proofs.HoursShown.{its_interval, none_contains}
use Rattle.plan_shows.proofs.stations.interval_at.Goals as goal

pub returns-then-contains-clause-found : goal.returns-then-contains-clause-found
returns-then-contains-clause-found c =
    let there = its_interval c.args.workstation.now.1 c.intervals-interval-items.result.now c.intervals-interval-items.ensures.intervals c.intervals-interval-items.ensures.in_order c.loop-interval.interval-index c.interval-item.result c.loop-interval-test.true c.interval-item.is in
    let contains : IsOpenAt c.interval-item.result c.args.at = search rules in
    (there, contains)

pub returns-clause-absent : goal.returns-clause-absent
returns-clause-absent c = λ none.
    let past = c.loop-interval-test.false in
    none_contains c.args.workstation.now.1 c.intervals-interval-items.result.now c.intervals-interval-items.ensures.intervals c.intervals-interval-items.ensures.in_order c.args.at (λ k d lt. c.loop-interval.invariant k d (omega (arith, lt, past)))
