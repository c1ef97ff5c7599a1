use Rattle.std.proofs.Common.{◌≡◌, subst, List}
use Rattle.plan_basics.specs.declared.keys.OpKey.{OpKey}
use Rattle.plan_forecast.specs.Ahead.{tick}
use Rattle.plan_records.specs.Answer.{accepted}
use Rattle.plan_records.specs.Step.{Step}
use Rattle.plan_records.specs.declared.Request.{Request}
use Rattle.forecasting.proofs.beginning.begin.Goals as goal

pub returns-clause-step : goal.returns-clause-step
returns-clause-step c =
    let q = c.tick_at-request.result in
    let is : q ≡ tick c.args.at = λ i. record { at = c.tick_at-request.ensures.at i; what = c.tick_at-request.ensures.what i } in
    subst (λ (z : Request). (chosen : List OpKey) × Step c.args.plan.now.plan z (accepted chosen) c.carry.new.plan.plan) is c.in_ok-carry.ensures.step
