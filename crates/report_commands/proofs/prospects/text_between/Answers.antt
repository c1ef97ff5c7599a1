use Rattle.std.proofs.Common.{IfOk, None, false, subst}
use Rattle.board_pages.specs.forecast_texts.specs.Texts.{IsForecastText}
use Rattle.board_pages.specs.Boards.{IsBoard}
use Rattle.report_commands.proofs.Prospected.{none_known}
use Rattle.report_commands.proofs.prospects.text_between.Goals as goal

pub returns-in-Forecast-clause-text : goal.returns-in-Forecast-clause-text
returns-in-Forecast-clause-text c =
    rw c.in-Forecast.is
    (subst (λ known. IfOk c.forecast_made.result (λ text. IsForecastText c.args.plan.now.plan known c.args.from c.args.until text.items))
    (none_known c.none-known.result c.none-known.ensures.entries) c.forecast_made.ensures.text)

pub returns-clause-text : goal.returns-clause-text
returns-clause-text c =
    rw c.in-Board.is
    (subst (λ known. IfOk c.board_made.result (λ text. IsBoard c.args.plan.now.plan known c.args.from (record { is_still = false; until = c.args.until }) None text.items))
    (none_known c.none-known.result c.none-known.ensures.entries) c.board_made.ensures.page)
