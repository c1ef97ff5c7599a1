-- What holds of all that forecasts tell.
use Rattle.std.specs.Prelude.{◌≡◌, ◌≢◌, Contains, None}
use Rattle.plan_model.specs.Plan.{IsSoundPlan}
use Rattle.plan_outlooks.specs.Forecasts.{Forecast, IsForecastOf}
use Rattle.plan_outlooks.specs.Outlooks.{AreOutlooks}
use Rattle.plan_outlooks.specs.declared.rows.Outlooks.{Outlooks}
use Rattle.plan_outlooks.specs.declared.rows.Standing.TheVariants as standing
use Rattle.plan_outlooks.specs.declared.rows.Standstill.{Standstill}

-- where no last minute was asked for, whatever never begins has a reason: none of it only begins later
abbrev pub EachHasReason : Type 0
EachHasReason =
    (F : Forecast) (x : Outlooks) → IsForecastOf F → IsSoundPlan F.plan → F.until ≡ None → AreOutlooks F x
    → (r : Standstill) → Contains x.standstills.items r → r.standing ≢ standing.Later
