use Rattle.std.proofs.Common.{◌≡◌, sym, subst, arith, ◌+◌}
use Rattle.forecasting.specs.InMemory.{NoTimes}
use Rattle.forecasting.proofs.First.{none_first, none_next}
use Rattle.forecasting.proofs.beginning.no_times.Goals as goal

pub loop-init : goal.loop-init
loop-init c = subst (NoTimes 0) (sym c.in_ok-times.ensures.items) none_first

pub loop-preserved : goal.loop-preserved
loop-preserved c = subst (NoTimes (c.loop.counter + 1)) (sym c.in_ok-push.ensures.items) (none_next c.loop.counter c.loop.times.items c.loop.invariant)

pub returns : goal.returns
returns c =
    let past = c.loop-test.false in
    let end = c.loop.auto.counter-end in
    let all : c.loop.counter ≡ c.args.count = omega (arith, past, end) in
    subst (λ n. NoTimes n c.loop.times.items) all c.loop.invariant
