use Rattle.std.proofs.Common.{◌≡◌, sym, ◌∙◌, ap, subst, arith, ◌<◌, slice_get, Some}
use Rattle.std.proofs.lemmas.Option.{slice_get-get_or}
use Rattle.plan_outlooks.specs.declared.lacks.Turn.{Turn}
use Rattle.plan_reasons.specs.plan_core.specs.State.{PlanState}
use Rattle.plan_outlooks.proofs.Replaying.{before_later, lacks_all, lacks_first, lacks_next}
use Rattle.plan_outlooks.proofs.lacks.lacks_of.Goals as goal

pub loop-turn-init : goal.loop-turn-init
loop-turn-init c = record {
  within = omega arith;
  led = ap (λ (s : PlanState). s.plan) c.in_ok-again.ensures.same;
  before = λ k t le at j q less at_j. absurd (omega (arith, less));
  so = lacks_first c.args.plan.now.plan c.args.requests.now c.args.turns.now c.requires.single c.args.count c.in_ok-lacks.lacks.items c.in_ok-lacks.ensures;
}

pub loop-turn-preserved : goal.loop-turn-preserved
loop-turn-preserved c =
    let P = c.args.plan.now.plan in
    let turns = c.args.turns.now in
    let n = c.loop-turn.turn-index in
    let t = c.turn-item.result in
    let at : slice_get turns n ≡ Some t = slice_get-get_or turns n t c.loop-turn-test.true ∙ ap Some (sym c.turn-item.is) in
    let made = c.in_ok-made.ensures.made P c.loop-turn.invariant.led (c.loop-turn.invariant.before n t (omega arith) at) in
    let room : t.place < c.args.count = subst (λ (z : Turn). z.place < c.args.count) (sym c.turn-item.is) (c.requires.within n t c.loop-turn-test.true) in
    record {
      within = made.within;
      led = made.leads;
      before = λ k u later at_k j q less at_j. before_later q.at t.at u.at (made.before j q less at_j) (c.requires.ordered n k t u (omega (arith, later)) at at_k);
      so = lacks_next P c.args.requests.now turns c.requires.single c.args.count n t c.loop-turn.lacks.items c.in_ok-lack.lack at room (c.make_up_to.new.plan.plan, made.plan, c.in_ok-lack.ensures.reason) c.loop-turn.invariant.so;
    }

pub returns-clause-lacks : goal.returns-clause-lacks
returns-clause-lacks c = lacks_all c.args.plan.now.plan c.args.requests.now c.args.turns.now c.requires.single c.args.count c.loop-turn.turn-index c.loop-turn.lacks.items (let past = c.loop-turn-test.false in omega (arith, past)) c.loop-turn.invariant.so
