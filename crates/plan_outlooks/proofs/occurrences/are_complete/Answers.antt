use Rattle.std.proofs.Common.{refl, sym, ◌∙◌, arith, true≢false}
use Rattle.std.specs.FinMap.{entries}
use Rattle.plan_reasons.specs.plan_drafts.proofs.RowPlaces.{row_at}
use Rattle.status_rules.specs.declared.Status.TheVariants.{Complete}
use Rattle.plan_outlooks.proofs.CompleteOnes.{all_have, none_have, one_more_has}
use Rattle.plan_outlooks.proofs.Deciding.{complete_by}
use Rattle.plan_outlooks.proofs.occurrences.are_complete.Goals as goal

pub loop-place-init : goal.loop-place-init
loop-place-init c = (omega arith, none_have c.args.loaded.now c.args.first Complete)

pub loop-place-preserved : goal.loop-place-preserved
loop-place-preserved c =
    let P = c.args.loaded.now in
    let from = c.loop-place.invariant.0 in (
      omega (arith, from),
      one_more_has P c.args.first c.loop-place.place Complete c.loop-place.invariant.1 (λ o op at. (complete_by P c.read_for_proof.ensures.valid o c.status_at.result (c.status_at.ensures o op at) c.is_complete.result c.is_complete.ensures).0 c.if-not-is_complete.false),
    )

pub returns-then-not-is_complete : goal.returns-then-not-is_complete
returns-then-not-is_complete c =
    let P = c.args.loaded.now in
    let i = c.loop-place.place in
    let test = c.loop-place-test.true in
    let bound = c.requires in
    let r = row_at (entries P.operations) i (omega (arith, test, bound)) in
    let o = r.0.0 in
    let told = complete_by P c.read_for_proof.ensures.valid o c.status_at.result (c.status_at.ensures o r.0.1 r.1) c.is_complete.result c.is_complete.ensures in (
      (λ e. absurd (true≢false (sym e))),
      (λ all. absurd (true≢false (sym (told.1 (all i o r.0.1 r.1 c.loop-place.invariant.0 test)) ∙ c.if-not-is_complete.true))),
    )

pub returns : goal.returns
returns c =
    let past = c.loop-place-test.false in (
      (λ e. all_have c.args.loaded.now c.args.first c.args.end c.loop-place.place Complete (omega (arith, past)) c.loop-place.invariant.1),
      (λ all. refl),
    )
