use Rattle.plan_forecast.specs.Ahead.{Ahead}
use Rattle.forecasting.specs.Following.{IsFollowed}
use Rattle.forecasting.specs.InMemory.{IsInMemory}
use Rattle.forecasting.specs.Turns.{IsHorizon}
use Rattle.forecasting.proofs.Keeping.{left}
use Rattle.forecasting.proofs.Leading.{HasLed}
use Rattle.forecasting.proofs.stepping.go_on.Given as goal

abbrev pub invariant-loop-request : goal.invariant-loop-request
invariant-loop-request l = record {
  lasting : IsHorizon l.plan.plan l.horizon;
  followed : IsFollowed l.plan.plan.contents l.going.items l.since l.done;
  led : (s : Ahead) → IsInMemory s l.fn.plan.plan l.fn.since l.fn.done → HasLed l.fn.horizon.until s l.fn.requests.items l.requests.items l.plan.plan l.since l.done;
}

abbrev pub decreases-loop-request : goal.decreases-loop-request
decreases-loop-request l = left l.plan.plan.contents
