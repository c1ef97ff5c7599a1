use Rattle.std.proofs.Common.{◌≡◌, sym, ◌∙◌, ap, subst, arith, true≢false, ◌<◌, ◌+◌, ℕ, IfSome, Option, Some, get_or, length, slice_get}
use Rattle.std.proofs.lemmas.Option.{slice_get-get_or}
use Rattle.std.specs.FinMap.{entries}
use Rattle.forecasting.proofs.Dues.{IsLeastBefore, due_at, least_all, least_first, least_next, least_passed, least_within}
use Rattle.forecasting.proofs.due.first_place_due.Goals as goal
use Rattle.forecasting.proofs.due.first_place_due.Goals.{then-is_due, else-is_due}

pub loop-place-init : goal.loop-place-init
loop-place-init c = record { within = tt; least = λ s same times. least_first s c.args.at c.args.going.now }

pub loop-place-preserved : goal.loop-place-preserved
loop-place-preserved c =
    let P = c.args.loaded.now in
    let m = c.args.at in
    let places = c.args.going.now in
    let begun = c.args.since.now in
    let n = c.loop-place.place-index in
    let p = get_or places n 0 in
    let z = c.index-since-place.result in
    let so_far = c.loop-place.invariant in
    let listed : slice_get places n ≡ Some p = slice_get-get_or places n 0 c.loop-place-test.true in
    let within : p < length (entries P.operations) = c.requires.within n 0 c.loop-place-test.true in
    let at_p : slice_get begun p ≡ Some z = slice_get-get_or begun p z (let size = c.requires.size in omega (arith, within, size)) ∙ ap Some (sym c.index-since-place.is) in
    elim c.if-is_due.branch [
      | then-is_due w ↦ record {
        within = subst (λ (f : Option ℕ). IfSome f (λ i. i < length (entries P.operations))) (sym w.first-is) (least_within (length (entries P.operations)) p w.least_with.result c.loop-place.first so_far.within within w.least_with.ensures);
        least = λ s same times.
            let decided = due_at s P same m begun times p z within at_p c.is_due.result (λ o op at since. c.is_due.ensures s o op same at since) in
            subst (λ (f : Option ℕ). IsLeastBefore s m places (n + 1) f) (sym w.first-is)
            (least_next s m places n p listed c.loop-place.first w.least_with.result (decided.0 w.if-is_due.true) w.least_with.ensures (so_far.least s same times));
      }
      | else-is_due w ↦ record {
        within = subst (λ (f : Option ℕ). IfSome f (λ i. i < length (entries P.operations))) (sym w.first-is) so_far.within;
        least = λ s same times.
            let decided = due_at s P same m begun times p z within at_p c.is_due.result (λ o op at since. c.is_due.ensures s o op same at since) in
            subst (λ (f : Option ℕ). IsLeastBefore s m places (n + 1) f) (sym w.first-is)
            (least_passed s m places n p listed c.loop-place.first (λ due. true≢false (sym (decided.1 due) ∙ w.if-is_due.false)) (so_far.least s same times));
      }
    ]

pub returns-clause-within : goal.returns-clause-within
returns-clause-within c = c.loop-place.invariant.within

pub returns-clause-least : goal.returns-clause-least
returns-clause-least c = λ s same times. least_all s c.args.at c.args.going.now c.loop-place.place-index c.loop-place.first (let past = c.loop-place-test.false in omega (arith, past)) (c.loop-place.invariant.least s same times)
