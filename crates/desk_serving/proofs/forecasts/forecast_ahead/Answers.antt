use Rattle.std.proofs.Common.{◌≡◌, ◌∙◌, ap}
use Rattle.plan_reports.specs.desk_tables.specs.plan_model.specs.Plan.{Plan}
use Rattle.desk_serving.proofs.Clock.{memory_alone}
use Rattle.desk_serving.proofs.forecasts.forecast_ahead.Goals as goal

pub returns-clause-text : goal.returns-clause-text
returns-clause-text g c =
    let moment : c.clock.result ≡ c.args.desk.now.plan.clock = c.clock.ensures.value ∙ ap (λ (P : Plan). P.clock) c.in_ok-plan.ensures.plan in
    rw (moment, c.in_ok-plan.ensures.plan) at c.forecast_made.ensures.text

pub returns-clause-refused : goal.returns-clause-refused
returns-clause-refused g c =
    let d = c.args.desk.now in
    let moment : c.clock.result ≡ d.plan.clock = c.clock.ensures.value ∙ ap (λ (P : Plan). P.clock) c.in_ok-plan.ensures.plan in
    memory_alone d.is_usable d.plan (rw c.in_ok-plan.ensures.plan at c.clock.ensures.sound) c.in_ok-plan.ensures.none_owed c.forecast_made.result
    (rw (moment, c.in_ok-plan.ensures.plan) at c.forecast_made.ensures.refused)
