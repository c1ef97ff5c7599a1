use Rattle.std.proofs.Common.{◌∙◌, ap₂}
use Rattle.std.specs.Option.{option_or}
use Rattle.plan_outlooks.specs.Forecasts.{minute_or}
use Rattle.plan_outlooks.proofs.OperationRows.{done_at, since_at}
use Rattle.plan_outlooks.proofs.refs.beginning_of.Goals as goal

pub returns : goal.returns
returns c = λ F o lent at.
    let x = c.args.refs.now in
    let time = c.first_time.ensures ∙ ap₂ option_or (since_at F x lent c.args.place o c.time_at-since.result at c.time_at-since.ensures) (done_at F x lent c.args.place o c.time_at-done.result at c.time_at-done.ensures) in
    c.moment_or.ensures ∙ ap₂ minute_or lent.from time
