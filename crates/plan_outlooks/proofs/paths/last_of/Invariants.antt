use Rattle.std.proofs.Common.{◌≡◌}
use Rattle.plan_outlooks.specs.Forecasts.{Forecast}
use Rattle.plan_outlooks.specs.Lent.{IsLent}
use Rattle.plan_outlooks.specs.Paths.{EndsAt}
use Rattle.plan_outlooks.proofs.FirstOnes.{NoneBefore}
use Rattle.plan_outlooks.proofs.paths.last_of.Given as goal

-- none that was passed is one of it that ends then
abbrev pub invariant-loop-place : goal.invariant-loop-place
invariant-loop-place l = (F : Forecast) → IsLent F l.refs → NoneBefore F (λ p. (p.occurrence ≡ l.occurrence) × EndsAt F l.end p) l.place
