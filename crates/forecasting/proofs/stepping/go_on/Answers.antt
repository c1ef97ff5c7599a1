use Rattle.std.proofs.Common.{sym, subst, List, Option, MatchOption}
use Rattle.plan_records.specs.declared.Request.{Request}
use Rattle.forecasting.specs.InMemory.{GoesOn, IsIdleUpTo, IsInMemory}
use Rattle.forecasting.proofs.Leading.{HasLed, falls, led_first, led_on, led_to_end}
use Rattle.forecasting.proofs.stepping.go_on.Goals as goal

pub loop-request-init : goal.loop-request-init
loop-request-init c = record {
  lasting = c.requires.lasting;
  followed = c.requires.followed;
  led = λ s ahead. led_first c.args.horizon.now.until s c.args.requests.now.items c.args.plan.now.plan c.args.since.now c.args.done.now ahead;
}

pub step_ahead-requires-clause-ahead : goal.step_ahead-requires-clause-ahead
step_ahead-requires-clause-ahead c = let led = c.loop-request.invariant.led c.requires.ahead.0 c.requires.ahead.1 in (led.1, led.3)

pub loop-request-preserved : goal.loop-request-preserved
loop-request-preserved c =
    let until = c.args.horizon.now.until in
    let before = c.args.requests.now.items in
    let now = c.loop-request.requests.items in
    let P = c.step_ahead.new.plan.plan in
    let begun = c.step_ahead.new.since in
    let ended = c.step_ahead.new.done in
    let q = c.in-Some.request in
    record {
      lasting = c.in_ok-request.ensures.lasting;
      followed = c.in_ok-request.ensures.followed;
      led = λ s ahead. subst (λ (xs : List Request). HasLed until s before xs P begun ended) (sym c.in_ok-add_request-in-Some.ensures)
          (led_on until s before now c.loop-request.plan.plan P c.loop-request.since c.loop-request.done begun ended q (c.loop-request.invariant.led s ahead)
          (λ t h. subst (λ (z : Option Request). MatchOption z (IsIdleUpTo until t × IsInMemory t P begun ended) (λ k. GoesOn until t k P begun ended)) c.in-Some.is (c.in_ok-request.ensures.made t h)));
    }

pub loop-request-smaller : goal.loop-request-smaller
loop-request-smaller c =
    let until = c.args.horizon.now.until in
    let P = c.step_ahead.new.plan.plan in
    let begun = c.step_ahead.new.since in
    let ended = c.step_ahead.new.done in
    let led = c.loop-request.invariant.led c.requires.ahead.0 c.requires.ahead.1 in
    falls until led.1 c.loop-request.plan.plan P c.loop-request.since c.loop-request.done begun ended c.in-Some.request c.read_for_proof.ensures led.3
    (subst (λ (z : Option Request). MatchOption z (IsIdleUpTo until led.1 × IsInMemory led.1 P begun ended) (λ k. GoesOn until led.1 k P begun ended)) c.in-Some.is (c.in_ok-request.ensures.made led.1 led.3))

pub returns-in-None-clause-made : goal.returns-in-None-clause-made
returns-in-None-clause-made c = λ s ahead.
    let until = c.args.horizon.now.until in
    let P = c.step_ahead.new.plan.plan in
    let begun = c.step_ahead.new.since in
    let ended = c.step_ahead.new.done in
    led_to_end until s c.args.requests.now.items c.loop-request.requests.items c.loop-request.plan.plan P c.loop-request.since c.loop-request.done begun ended (c.loop-request.invariant.led s ahead)
    (λ t h. subst (λ (z : Option Request). MatchOption z (IsIdleUpTo until t × IsInMemory t P begun ended) (λ k. GoesOn until t k P begun ended)) c.in-None.is (c.in_ok-request.ensures.made t h))
