use Rattle.plan_outlooks.specs.Forecasts.{Forecast}
use Rattle.plan_outlooks.specs.Lent.{IsLent}
use Rattle.plan_outlooks.proofs.StandstillsListed.{StandstillsUpTo}
use Rattle.plan_outlooks.proofs.standstills.standstills_by_key.Given as goal

-- those of the first operations
abbrev pub invariant-loop-place : goal.invariant-loop-place
invariant-loop-place l = (F : Forecast) → IsLent F l.refs → StandstillsUpTo F l.place l.rows.items
