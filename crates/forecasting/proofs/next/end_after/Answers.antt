use Rattle.std.proofs.Common.{◌≡◌, sym, ◌∙◌, ap, arith, ◌<◌, Some, get_or, length, slice_get}
use Rattle.std.proofs.lemmas.Option.{slice_get-get_or}
use Rattle.std.specs.FinMap.{entries}
use Rattle.forecasting.proofs.Ends.{ends_all, ends_first, ends_next}
use Rattle.forecasting.proofs.next.end_after.Goals as goal

pub loop-place-init : goal.loop-place-init
loop-place-init c = ends_first (entries c.args.loaded.now.operations) c.args.going.now c.args.since.now c.args.after

pub loop-place-preserved : goal.loop-place-preserved
loop-place-preserved c =
    let P = c.args.loaded.now in
    let places = c.args.going.now in
    let begun = c.args.since.now in
    let n = c.loop-place.place-index in
    let p = get_or places n 0 in
    let z = c.index-since-place.result in
    let listed : slice_get places n ≡ Some p = slice_get-get_or places n 0 c.loop-place-test.true in
    let within : p < length (entries P.operations) = c.requires.within n 0 c.loop-place-test.true in
    let at_p : slice_get begun p ≡ Some z = slice_get-get_or begun p z (let size = c.requires.size in omega (arith, within, size)) ∙ ap Some (sym c.index-since-place.is) in
    ends_next (entries P.operations) places begun c.args.after n p z c.end_at.result c.loop-place.first c.earlier-first.result listed at_p c.end_at.ensures.after c.end_at.ensures.end c.earlier-first.ensures c.loop-place.invariant

pub returns-clause-after : goal.returns-clause-after
returns-clause-after c = c.loop-place.invariant.after

pub returns-clause-first : goal.returns-clause-first
returns-clause-first c = ends_all (entries c.args.loaded.now.operations) c.args.going.now c.args.since.now c.args.after c.loop-place.place-index c.loop-place.first (let past = c.loop-place-test.false in omega (arith, past)) c.loop-place.invariant
