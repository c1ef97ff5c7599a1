use Rattle.forecasting.specs.Following.{AreAll}
use Rattle.forecasting.proofs.following.every_place.Given as goal

abbrev pub invariant-loop-place : goal.invariant-loop-place
invariant-loop-place l = AreAll l.place l.places.items
