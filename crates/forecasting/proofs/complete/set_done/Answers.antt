use Rattle.std.proofs.Common.{◌≡◌, sym, ◌∙◌, ap, arith, ◌<◌, ◌≤◌, Some, get_or, length, slice_get}
use Rattle.std.proofs.lemmas.Option.{slice_get-get_or}
use Rattle.std.specs.FinMap.{entries}
use Rattle.forecasting.proofs.AfterRequest.{Completes}
use Rattle.forecasting.proofs.TimesSet.{set_all, set_first, set_next}
use Rattle.forecasting.proofs.complete.set_done.Goals as goal

pub loop-place-init : goal.loop-place-init
loop-place-init c = let P = c.args.loaded.now in set_first (Completes P) (λ o. c.args.at) (entries P.operations) c.args.places.now c.args.done.now

pub loop-place-preserved : goal.loop-place-preserved
loop-place-preserved c =
    let P = c.args.loaded.now in
    let n = c.loop-place.place-index in
    let places = c.args.places.now in
    let p = get_or places n 0 in
    let xs = c.loop-place.done in
    let old = c.index-done-place.result in
    let listed : slice_get places n ≡ Some p = slice_get-get_or places n 0 c.loop-place-test.true in
    let within : p < length (entries P.operations) = c.requires.within n 0 c.loop-place-test.true in
    let room : p < length xs = (let size = c.requires.size in let kept = c.loop-place.invariant.size in omega (arith, within, size, kept)) in
    let at_old : slice_get xs p ≡ Some old = slice_get-get_or xs p old room ∙ ap Some (sym c.index-done-place.is) in
    set_next (Completes P) (λ o. c.args.at) (entries P.operations) places c.args.done.now xs n p old c.time_at.result c.loop-place.invariant listed room at_old c.time_at.ensures

pub returns-clause-size : goal.returns-clause-size
returns-clause-size c = c.loop-place.invariant.size

pub returns-clause-times : goal.returns-clause-times
returns-clause-times c =
    let P = c.args.loaded.now in
    let past = c.loop-place-test.false in
    let enough : length c.args.places.now ≤ c.loop-place.place-index = omega (arith, past) in
    set_all (Completes P) (λ o. c.args.at) (entries P.operations) c.args.places.now c.args.done.now c.loop-place.done c.loop-place.place-index enough c.loop-place.invariant
