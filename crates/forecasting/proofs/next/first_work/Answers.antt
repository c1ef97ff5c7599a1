use Rattle.std.proofs.Common.{rules, sym, subst, arith, ◌<◌, ◌≤◌}
use Rattle.plan_model.specs.Contents.{Contents}
use Rattle.plan_model.specs.Valid.{IsValid}
use Rattle.forecasting.proofs.TurnsTaken.{first_is, idle_always, idle_first, idle_on, idle_past}
use Rattle.forecasting.proofs.next.first_work.Goals as goal

pub loop-at-init : goal.loop-at-init
loop-at-init c = record { from = omega arith; idle = λ s same now times its. idle_first s c.args.clock now }

pub returns-in-Some : goal.returns-in-Some
returns-in-Some c = λ s same now times its.
    let x = c.loop-at.at in
    let start = c.loop-at.invariant.from in
    let within : x ≤ c.args.horizon.now.until = search rules in
    let from : s.plan.clock ≤ x = omega (arith, start, now) in
    first_is s (subst (λ (C : Contents). IsValid C) (sym same) c.read_for_proof.ensures.valid) x (c.loop-at.invariant.idle s same now times its) c.args.horizon.now.until c.in-Some.what from within (c.in-Some.ensures s same times)

pub loop-at-smaller : goal.loop-at-smaller
loop-at-smaller c =
    let on = c.in-Some-turn_after.ensures.onward in
    let above = on.0 in
    let within : c.loop-at.at ≤ c.args.horizon.now.until = search rules in
    omega (arith, above, within)

pub loop-at-preserved : goal.loop-at-preserved
loop-at-preserved c =
    let x = c.loop-at.at in
    let y = c.in-Some-turn_after.turn in
    let start = c.loop-at.invariant.from in
    let above = c.in-Some-turn_after.ensures.onward.0 in
    record {
      from = omega (arith, start, above);
      idle = λ s same now times its.
          let from : s.plan.clock ≤ x = omega (arith, start, now) in
          idle_on s (subst (λ (C : Contents). IsValid C) (sym same) c.read_for_proof.ensures.valid) x (c.loop-at.invariant.idle s same now times its) (c.in-None.ensures s same times) y (c.in-Some-turn_after.ensures.next s same from times its).2;
    }

pub returns-in-None-turn_after : goal.returns-in-None-turn_after
returns-in-None-turn_after c = λ s same now times its.
    let x = c.loop-at.at in
    let start = c.loop-at.invariant.from in
    let from : s.plan.clock ≤ x = omega (arith, start, now) in
    idle_always s (subst (λ (C : Contents). IsValid C) (sym same) c.read_for_proof.ensures.valid) x (c.loop-at.invariant.idle s same now times its) (c.in-None.ensures s same times) c.args.horizon.now.until
    (c.in-None-turn_after.ensures.next s same from times its)

pub returns : goal.returns
returns c = λ s same now times its.
    let x = c.loop-at.at in
    let past : c.args.horizon.now.until < x = search rules in
    idle_past s (subst (λ (C : Contents). IsValid C) (sym same) c.read_for_proof.ensures.valid) x (c.loop-at.invariant.idle s same now times its) c.args.horizon.now.until past
