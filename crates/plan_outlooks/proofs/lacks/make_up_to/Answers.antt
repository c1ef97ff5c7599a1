use Rattle.std.proofs.Common.{◌≡◌, sym, ◌∙◌, ap, subst, add-one, arith, false, take, pos, slice_get, List, Some}
use Rattle.std.specs.Prelude.{int_lt}
use Rattle.std.proofs.lemmas.Option.{same_Some, slice_get-get_or, slice_get_within}
use Rattle.plan_records.specs.declared.Request.{Request}
use Rattle.plan_outlooks.specs.Lacks.{LeadTo}
use Rattle.plan_outlooks.proofs.Replaying.{all_more, lead_more, next_step, take_more, up_to}
use Rattle.plan_outlooks.proofs.lacks.make_up_to.Goals as goal

pub loop-next-init : goal.loop-next-init
loop-next-init c = record { within = c.requires.4; led = λ P leads. leads; before = λ all. all }

pub make_again-requires : goal.make_again-requires
make_again-requires c =
    let rs = c.args.requests.now in
    let n = c.loop-next.next in
    let q = c.index-requests-next-in-loop-next.result in
    let at : slice_get rs n ≡ Some q = slice_get-get_or rs n q c.loop-next-test.true ∙ ap Some (sym c.index-requests-next-in-loop-next.is) in
    next_step c.requires.0 c.requires.1 rs n q c.loop-next.plan.plan c.requires.2 (c.loop-next.invariant.led c.requires.0 c.requires.3) at

pub loop-next-preserved : goal.loop-next-preserved
loop-next-preserved c =
    let rs = c.args.requests.now in
    let n = c.loop-next.next in
    let q = c.index-requests-next-in-loop-next.result in
    let r = c.index-requests-next.result in
    let at : slice_get rs n ≡ Some q = slice_get-get_or rs n q c.loop-next-test.true ∙ ap Some (sym c.index-requests-next-in-loop-next.is) in
    let there : slice_get rs n ≡ Some r = slice_get-get_or rs n r c.loop-next-test.true ∙ ap Some (sym c.index-requests-next.is) in
    let step = c.in_ok-make_again.ensures.step in
    let less = c.loop-next-test.true in
    record {
      within = omega (arith, less);
      led = λ P leads. subst (λ (qs : List Request). LeadTo P qs c.make_again.new.plan.plan) (take_more rs n q at ∙ ap (λ k. take k rs) (sym (add-one n)))
          (lead_more P c.loop-next.plan.plan c.make_again.new.plan.plan (take n rs) q step.0 (c.loop-next.invariant.led P leads) step.1);
      before = λ all. all_more c.args.at rs n r there (sym c.is_before.ensures ∙ c.if-not-is_before.false) (c.loop-next.invariant.before all);
    }

pub returns-then-not-is_before-clause-made : goal.returns-then-not-is_before-clause-made
returns-then-not-is_before-clause-made c = λ P leads all.
    let rs = c.args.requests.now in
    let n = c.loop-next.next in
    let r = c.index-requests-next.result in
    let there : slice_get rs n ≡ Some r = slice_get-get_or rs n r c.loop-next-test.true ∙ ap Some (sym c.index-requests-next.is) in
    let led = c.loop-next.invariant.led P leads in
    let before = c.loop-next.invariant.before all in
    let late : int_lt r.at (pos c.args.at) ≡ false = sym c.is_before.ensures ∙ c.if-not-is_before.true in
    let cut = up_to c.args.at rs n before (λ q at. subst (λ (z : Request). int_lt z.at (pos c.args.at) ≡ false) (same_Some r q (sym there ∙ at)) late) c.loop-next.invariant.within in
    record { plan = subst (λ (qs : List Request). LeadTo P qs c.loop-next.plan.plan) (sym cut) led; leads = led; before = before; within = c.loop-next.invariant.within }

pub returns-clause-made : goal.returns-clause-made
returns-clause-made c = λ P leads all.
    let rs = c.args.requests.now in
    let n = c.loop-next.next in
    let led = c.loop-next.invariant.led P leads in
    let before = c.loop-next.invariant.before all in
    let past = c.loop-next-test.false in
    let cut = up_to c.args.at rs n before (λ q at. absurd (let within = slice_get_within rs n q at in omega (arith, within, past))) c.loop-next.invariant.within in
    record { plan = subst (λ (qs : List Request). LeadTo P qs c.loop-next.plan.plan) (sym cut) led; leads = led; before = before; within = c.loop-next.invariant.within }
