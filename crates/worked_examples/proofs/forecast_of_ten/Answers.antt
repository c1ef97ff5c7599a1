use Rattle.worked_examples.proofs.TenAhead.{forecast_of_ten}
use Rattle.worked_examples.proofs.forecast_of_ten.Goals as goal

pub returns : goal.returns
returns c = forecast_of_ten
