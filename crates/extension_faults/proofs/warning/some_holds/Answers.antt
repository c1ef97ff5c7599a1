use Rattle.std.proofs.Common.{◌∙◌, arith, refl, sym, subst, true≢false, ℕ, ◌+◌, ◌<◌, length, get_or, Contains}
use Rattle.std.proofs.lemmas.Bool.{cases_lt}
use Rattle.plan_basics.specs.Intervals.{OpenInterval}
use Rattle.extension_faults.specs.Warned.{HoldsAfter}
use Rattle.extension_faults.proofs.Lasting.{none_later, none_so_far}
use Rattle.extension_faults.proofs.warning.some_holds.Goals as goal

pub returns-then-holds_after : goal.returns-then-holds_after
returns-then-holds_after c =
    let item = c.interval-item.result in
    (λ _. (item, (c.loop-interval.interval-index, c.loop-interval-test.true, sym c.interval-item.is), c.holds_after.ensures.0 c.if-holds_after.true), λ _. refl)

pub loop-interval-preserved : goal.loop-interval-preserved
loop-interval-preserved c =
    none_later c.args.intervals.now c.args.operation.now c.args.clock c.loop-interval.interval-index c.interval-item.result c.loop-interval-test.true c.interval-item.is c.loop-interval.invariant
    (λ holds. true≢false (sym (c.holds_after.ensures.1 holds) ∙ c.if-holds_after.false))

pub returns : goal.returns
returns c = none_so_far c.args.intervals.now c.args.operation.now c.args.clock c.loop-interval.interval-index (omega arith) c.loop-interval.invariant
