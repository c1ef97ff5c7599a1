use Rattle.plan_forecast.proofs.Early.{none_ends_early}
use Rattle.plan_forecast.proofs.none_ends_early.Goals as goal

pub returns : goal.returns
returns c = none_ends_early
