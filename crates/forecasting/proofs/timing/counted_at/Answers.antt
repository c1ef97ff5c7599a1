use Rattle.std.proofs.Common.{sym, ◌∙◌, ap}
use Rattle.plan_model.specs.Contents.{Operation}
use Rattle.plan_forecast.specs.Ahead.{counted_by, counted_of}
use Rattle.forecasting.proofs.timing.counted_at.Goals as goal

pub returns : goal.returns
returns c = λ o op at.
    let is = c.reported_at-reported.ensures o op at in
    c.counted.ensures ∙ ap (λ (z : Operation). counted_by z.mark z.not_before c.args.at) c.operation.view_is ∙ ap (λ z. counted_of z c.args.at) (sym is.operation)
