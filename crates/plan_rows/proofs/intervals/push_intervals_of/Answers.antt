use Rattle.std.proofs.Common.{◌++◌, ◌∙◌, ap, arith, ℕ, map}
use Rattle.std.proofs.lemmas.List.{take_all}
use Rattle.plan_basics.specs.Intervals.{OpenInterval}
use Rattle.plan_basics.specs.Keys.{Name}
use Rattle.plan_rows.proofs.WithinRows.{intervals_listed}
use Rattle.plan_rows.proofs.intervals.push_intervals_of.Goals as goal

pub returns : goal.returns
returns c =
    let all = c.loop-interval-test.false in
    let xs = c.intervals-intervals.result.now in
    let taken = take_all c.loop-interval.interval-index xs (omega (arith, all)) in
    c.loop-interval.invariant
    ∙ ap (λ zs. c.args.found.now.items ++ zs) ((λ i. map {B = (Name × ℕ) × OpenInterval} (λ (x : OpenInterval). ((c.name-name.ensures i, x.from), x)) (taken i)) ∙ intervals_listed c.args.workstation.now xs c.intervals-intervals.ensures.intervals c.intervals-intervals.ensures.in_order)
