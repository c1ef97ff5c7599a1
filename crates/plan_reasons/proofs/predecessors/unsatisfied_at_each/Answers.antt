use Rattle.std.proofs.Common.{◌++◌, ◌∷◌, [], sym, subst, get_or, take}
use Rattle.std.proofs.lemmas.List.{take_more}
use Rattle.plan_reasons.specs.Places.{AreAt}
use Rattle.plan_reasons.proofs.Found.{one_more_found}
use Rattle.plan_reasons.proofs.predecessors.unsatisfied_at_each.Goals as goal

pub loop-place-preserved : goal.loop-place-preserved
loop-place-preserved c =
    let P = c.args.loaded.now in
    let places = c.args.places.now in
    let i = c.loop-place.place-index in
    let place = get_or places i 0 in
    subst (λ ps. AreAt P ps c.push.new.self.items) (sym (take_more places i 0 c.loop-place-test.true))
    (subst (AreAt P (take i places ++ place ∷ [])) (sym c.in_ok-push.ensures.items)
    (one_more_found P (take i places) c.loop-place.found.items place c.unsatisfied_at.result c.loop-place.invariant c.unsatisfied_at.ensures.at c.unsatisfied_at.ensures.status))
