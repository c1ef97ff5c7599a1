use Rattle.std.proofs.Common.{◌≡◌, refl, ◌∙◌, arith, true, ◌<◌, Some, get_or, length, slice_get}
use Rattle.std.proofs.lemmas.List.{length-set}
use Rattle.std.proofs.lemmas.Option.{slice_get-get_or}
use Rattle.plan_outlooks.proofs.TakenOnes.{set_all, set_more, set_none}
use Rattle.plan_outlooks.proofs.overruns.set_flags.Goals as goal

pub loop-place-init : goal.loop-place-init
loop-place-init c = record { size = refl; so = set_none c.args.flags.now.items c.args.places.now }

pub loop-place-preserved : goal.loop-place-preserved
loop-place-preserved c =
    let places = c.args.places.now in
    let n = c.loop-place.place-index in
    let p = get_or places n 0 in
    let xs = c.loop-place.flags.items in
    let at : slice_get places n ≡ Some p = slice_get-get_or places n 0 c.loop-place-test.true in
    let within : p < length c.args.flags.now.items = c.requires n 0 c.loop-place-test.true in
    let room : p < length xs = (let kept = c.loop-place.invariant.size in omega (arith, within, kept)) in
    record {
      size = length-set xs p true ∙ c.loop-place.invariant.size;
      so = set_more c.args.flags.now.items xs places n p at room c.loop-place.invariant.so;
    }

pub returns-clause-set : goal.returns-clause-set
returns-clause-set c = set_all c.args.flags.now.items c.loop-place.flags.items c.args.places.now c.loop-place.place-index (let past = c.loop-place-test.false in omega (arith, past)) c.loop-place.invariant.so
