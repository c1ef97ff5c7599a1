use Rattle.plan_outlooks.specs.Forecasts.{Forecast}
use Rattle.plan_outlooks.specs.Lent.{IsLent}
use Rattle.plan_outlooks.proofs.OperationsListed.{OperationsUpTo}
use Rattle.plan_outlooks.proofs.operations.operations_by_key.Given as goal

-- those of the first operations
abbrev pub invariant-loop-place : goal.invariant-loop-place
invariant-loop-place l = (F : Forecast) → IsLent F l.refs → OperationsUpTo F l.place l.rows.items
