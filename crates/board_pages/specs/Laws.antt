-- What is so of every page: it says where a start isn't known.
use Rattle.std.specs.Prelude.{◌≡◌, ◌↔◌, []}
use Rattle.forecast_texts.specs.plan_outlooks.specs.Forecasts.{Forecast, IsForecastOf, IsSinceUnknown}
use Rattle.forecast_texts.specs.plan_outlooks.specs.Outlooks.{AreOutlooks}
use Rattle.forecast_texts.specs.plan_outlooks.specs.declared.rows.Outlooks.{Outlooks}
use Rattle.plan_basics.specs.declared.keys.OpKey.{OpKey}
use Rattle.board_pages.specs.Pages.{unknown_count}

-- the page of what is read off a forecast is silent on unknown starts exactly where nothing is going since nobody knows when
abbrev pub UnknownIsTold : Type 0
UnknownIsTold = (F : Forecast) (x : Outlooks) → IsForecastOf F → AreOutlooks F x → (unknown_count x ≡ []) ↔ ((o : OpKey) → ¬ IsSinceUnknown F o)
