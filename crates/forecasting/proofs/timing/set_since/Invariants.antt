use Rattle.std.specs.FinMap.{entries}
use Rattle.plan_forecast.specs.Ahead.{IsGoing, counted_from}
use Rattle.forecasting.proofs.TimesSet.{AreSetUpTo}
use Rattle.forecasting.proofs.timing.set_since.Given as goal

abbrev pub invariant-loop-place : goal.invariant-loop-place
invariant-loop-place l = AreSetUpTo (IsGoing l.fn.loaded) (counted_from l.fn.loaded l.fn.at) (entries l.fn.loaded.operations) l.places l.fn.since l.since l.place-index
