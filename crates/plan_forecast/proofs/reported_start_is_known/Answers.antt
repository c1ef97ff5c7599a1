use Rattle.plan_forecast.proofs.Starts.{reported_start_is_known}
use Rattle.plan_forecast.proofs.reported_start_is_known.Goals as goal

pub returns : goal.returns
returns c = reported_start_is_known
