use Rattle.forecasting.proofs.Gathered.{AddsGoingUpTo}
use Rattle.forecasting.proofs.following.add_going.Given as goal

abbrev pub invariant-loop-place : goal.invariant-loop-place
invariant-loop-place l = AddsGoingUpTo l.fn.loaded l.places l.place-index l.fn.going.items l.going.items
