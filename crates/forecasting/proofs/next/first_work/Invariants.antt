use Rattle.std.proofs.Common.{◌≡◌, ◌-◌, ◌+◌, ◌≤◌}
use Rattle.std.specs.FinMap.{entries}
use Rattle.plan_forecast.specs.Ahead.{Ahead}
use Rattle.forecasting.specs.Times.{AreTimesOf}
use Rattle.forecasting.specs.Turns.{IsHorizon}
use Rattle.forecasting.proofs.TurnsTaken.{IsIdleAtTurns}
use Rattle.forecasting.proofs.next.first_work.Given as goal

abbrev pub invariant-loop-at : goal.invariant-loop-at
invariant-loop-at l = record {
  from : l.fn.clock ≤ l.at;
  idle : (s : Ahead) → s.plan.contents ≡ l.fn.loaded → s.plan.clock ≡ l.fn.clock → AreTimesOf s.since (entries l.fn.loaded.operations) l.fn.since → IsHorizon s.plan l.fn.horizon → IsIdleAtTurns s l.at;
}

abbrev pub decreases-loop-at : goal.decreases-loop-at
decreases-loop-at l = (l.fn.horizon.until + 1) - l.at
