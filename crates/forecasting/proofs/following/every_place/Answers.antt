use Rattle.std.proofs.Common.{◌≡◌, subst, arith}
use Rattle.forecasting.specs.Following.{AreAll}
use Rattle.forecasting.proofs.Gathered.{all_first, all_next}
use Rattle.forecasting.proofs.following.every_place.Goals as goal

pub loop-place-init : goal.loop-place-init
loop-place-init c = all_first c.in_ok-places.places.items c.in_ok-places.ensures.items

pub loop-place-preserved : goal.loop-place-preserved
loop-place-preserved c = all_next c.loop-place.place c.loop-place.places.items _ c.in_ok-push.ensures.items c.loop-place.invariant

pub returns : goal.returns
returns c =
    let past = c.loop-place-test.false in
    let end = c.loop-place.auto.place-end in
    let all : c.loop-place.place ≡ c.args.count = omega (arith, past, end) in
    subst (λ n. AreAll n c.loop-place.places.items) all c.loop-place.invariant
