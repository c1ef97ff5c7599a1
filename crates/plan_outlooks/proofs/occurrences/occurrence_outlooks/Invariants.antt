use Rattle.plan_outlooks.specs.Forecasts.{Forecast}
use Rattle.plan_outlooks.specs.Lent.{IsLent}
use Rattle.plan_outlooks.proofs.OccurrencesListed.{OccurrencesUpTo}
use Rattle.plan_outlooks.proofs.occurrences.occurrence_outlooks.Given as goal

-- those of the first occurrences
abbrev pub invariant-loop-place : goal.invariant-loop-place
invariant-loop-place l = (F : Forecast) → IsLent F l.refs → OccurrencesUpTo F l.place l.rows.items
