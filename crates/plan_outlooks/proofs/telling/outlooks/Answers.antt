use Rattle.std.proofs.Common.{subst, ap, ℕ}
use Rattle.plan_forecast.specs.Ahead.{IsForecast}
use Rattle.plan_model.specs.Plan.{Plan}
use Rattle.forecasting.specs.Known.{since_in}
use Rattle.plan_outlooks.specs.Forecasts.{limit_of}
use Rattle.plan_outlooks.proofs.telling.outlooks.Goals as goal

pub told_of-requires : goal.told_of-requires
told_of-requires c =
    let made = c.in_ok-foretold.ensures.forecast in
    let t = made.0 in
    let requests = c.in_ok-foretold.foretold.requests.items in
    let limited = subst (λ (m : ℕ). IsForecast c.in_ok-last.last.plan (since_in c.args.known.now) c.args.from m requests t) c.limit_of-limit.ensures made.1 in (
      t,
      subst (λ (P : Plan). IsForecast P (since_in c.args.known.now) c.args.from (limit_of c.args.until) requests t) (ap (λ s. s.plan) c.in_ok-last.ensures.same) limited,
      made.2,
    )
