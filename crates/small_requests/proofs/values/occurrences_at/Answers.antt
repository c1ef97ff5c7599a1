use Rattle.std.proofs.Common.{arith, sym, subst, ℕ, ◌<◌, All, get_or, length, take, Contains}
use Rattle.std.proofs.lemmas.List.{take_all, take_more}
use Rattle.std.proofs.lemmas.List.Elements.{All-push}
use Rattle.std.specs.FinMap.{entries}
use Rattle.plan_rows.specs.Touched.{HasOneOf}
use Rattle.small_requests.proofs.Belonging.{none_belong, one_more_belongs}
use Rattle.small_requests.proofs.values.occurrences_at.Goals as goal

pub loop-place-init : goal.loop-place-init
loop-place-init c = record {
  within = subst (All (λ p. p < length (entries c.args.uncounted.now.contents.now.occurrences))) (sym c.in_ok-all.ensures.items) (λ k d lt. absurd (omega (arith, lt)));
  each = none_belong c.args.uncounted.now.contents.now c.in_ok-all.all.items;
}

pub loop-place-preserved : goal.loop-place-preserved
loop-place-preserved c =
    let P = c.args.uncounted.now.contents.now in
    let places = c.args.places.now in
    let n = c.loop-place.place-index in
    rw (take_more places n 0 c.loop-place-test.true, c.in_ok-push.ensures.items) (record {
      within = All-push (λ p. p < length (entries P.occurrences)) c.loop-place.all.items c.occurrence_at.result c.loop-place.invariant.within c.occurrence_at.ensures.within;
      each = one_more_belongs P (take n places) c.loop-place.all.items (get_or places n 0) c.occurrence_at.result c.loop-place.invariant.each c.occurrence_at.ensures.belongs;
    })

pub returns-clause-each : goal.returns-clause-each
returns-clause-each c =
    subst (λ ps. (p : ℕ) → HasOneOf c.args.uncounted.now.contents.now ps p → Contains c.loop-place.all.items p) (take_all c.loop-place.place-index c.args.places.now c.loop-place-test.false) c.loop-place.invariant.each
