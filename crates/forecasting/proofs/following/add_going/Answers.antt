use Rattle.std.proofs.Common.{◌≡◌, sym, ◌∙◌, ap, subst, arith, true≢false, ◌+◌, ℕ, List, Some, get_or, slice_get}
use Rattle.std.proofs.lemmas.Option.{slice_get-get_or}
use Rattle.plan_basics.proofs.Members.{at_place}
use Rattle.forecasting.proofs.Gathered.{AddsGoingUpTo, adds_going_all, adds_going_first, adds_going_next, adds_going_passed}
use Rattle.forecasting.proofs.following.add_going.Goals as goal
use Rattle.forecasting.proofs.following.add_going.Goals.{then-is_going_at+in_ok-push, else-is_going_at}

pub loop-place-init : goal.loop-place-init
loop-place-init c = adds_going_first c.args.loaded.now c.args.places.now c.args.going.now.items

pub loop-place-preserved : goal.loop-place-preserved
loop-place-preserved c =
    let P = c.args.loaded.now in
    let places = c.args.places.now in
    let n = c.loop-place.place-index in
    let p = get_or places n 0 in
    let old = c.args.going.now.items in
    let so_far = c.loop-place.going.items in
    let listed : slice_get places n ≡ Some p = slice_get-get_or places n 0 c.loop-place-test.true in
    elim c.if-is_going_at.branch [
      | then-is_going_at+in_ok-push w ↦ adds_going_next P places n p listed old so_far c.loop-place.invariant (at_place places n p listed) _ (ap (λ v. v.items) w.going-is ∙ w.in_ok-push.ensures.items)
      | else-is_going_at w ↦
          subst (λ (xs : List ℕ). AddsGoingUpTo P places (n + 1) old xs) (sym (ap (λ v. v.items) w.going-is))
          (adds_going_passed P places n p listed old so_far c.loop-place.invariant (λ o op at going. true≢false (sym ((c.is_going_at.ensures o op at).1 going) ∙ w.if-is_going_at.false)))
    ]

pub returns : goal.returns
returns c = adds_going_all c.args.loaded.now c.args.places.now c.loop-place.place-index c.args.going.now.items c.loop-place.going.items (let past = c.loop-place-test.false in omega (arith, past)) c.loop-place.invariant
