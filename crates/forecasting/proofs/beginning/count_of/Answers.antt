use Rattle.std.proofs.Common.{refl, sym}
use Rattle.forecasting.proofs.AfterRequest.{no_rows}
use Rattle.forecasting.proofs.beginning.count_of.Goals as goal

pub returns-in-None : goal.returns-in-None
returns-in-None c = sym (no_rows c.args.plan.now.plan.contents (c.in-None.ensures.none refl))
