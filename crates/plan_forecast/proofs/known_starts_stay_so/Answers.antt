use Rattle.plan_forecast.proofs.Starts.{starts_stay_known}
use Rattle.plan_forecast.proofs.known_starts_stay_so.Goals as goal

pub returns : goal.returns
returns c = starts_stay_known
