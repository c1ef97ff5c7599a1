use Rattle.std.proofs.Common.{◌≡◌, ◌<◌, IfSome, length}
use Rattle.std.specs.FinMap.{entries}
use Rattle.plan_forecast.specs.Ahead.{Ahead}
use Rattle.forecasting.specs.Times.{AreTimesOf}
use Rattle.forecasting.proofs.Dues.{IsLeastBefore}
use Rattle.forecasting.proofs.due.first_place_due.Given as goal

abbrev pub invariant-loop-place : goal.invariant-loop-place
invariant-loop-place l = record {
  within : IfSome l.first (λ i. i < length (entries l.fn.loaded.operations));
  least : (s : Ahead) → s.plan.contents ≡ l.fn.loaded → AreTimesOf s.since (entries l.fn.loaded.operations) l.fn.since → IsLeastBefore s l.fn.at l.going l.place-index l.first;
}
