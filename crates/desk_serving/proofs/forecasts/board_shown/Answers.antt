use Rattle.std.proofs.Common.{None}
use Rattle.board_pages.specs.Boards.{IsBoard}
use Rattle.board_pages.specs.forecast_texts.specs.plan_outlooks.specs.forecasting.specs.Known.{since_in}
use Rattle.http_messages.specs.Replies.{page_reply}
use Rattle.http_messages.specs.declared.statuses.Status.TheVariants as status
use Rattle.desk_serving.specs.Shown.{board_refusal_of, refused_page_reply, view_of}
use Rattle.desk_serving.proofs.Owed.{shows_by}
use Rattle.desk_serving.proofs.forecasts.board_shown.Goals as goal

pub returns : goal.returns
returns g c =
    let d = c.args.desk.now in
    let q = c.args.query in
    shows_by (refused_page_reply q.is_still) (page_reply status.Success) (board_refusal_of d.is_usable d.plan q.until) (IsBoard d.plan (since_in c.args.known.now) d.plan.clock (view_of q) c.args.watch.now) c.board_ahead.result c.page_told.result
    c.board_ahead.ensures.page c.board_ahead.ensures.none_owed c.board_ahead.ensures.refused c.page_told.ensures.shown c.page_told.ensures.memory
