use Rattle.std.proofs.Common.{None}
use Rattle.board_pages.specs.forecast_texts.specs.Texts.{IsForecastText}
use Rattle.board_pages.specs.forecast_texts.specs.plan_outlooks.specs.forecasting.specs.Known.{since_in}
use Rattle.http_messages.specs.Replies.{text_reply}
use Rattle.plan_reports.specs.Reports.{refusal_of}
use Rattle.desk_serving.proofs.Owed.{shows_made}
use Rattle.desk_serving.proofs.forecasts.forecast_shown.Goals as goal

pub returns : goal.returns
returns g c =
    let d = c.args.desk.now in
    shows_made text_reply (refusal_of d.is_usable d.plan) (IsForecastText d.plan (since_in c.args.known.now) d.plan.clock None) c.forecast_ahead.result c.text_shown.result
    c.forecast_ahead.ensures.text c.forecast_ahead.ensures.none_owed c.forecast_ahead.ensures.refused c.text_shown.ensures.shown c.text_shown.ensures.memory
