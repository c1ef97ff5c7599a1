use Rattle.forecasting.proofs.Kept.{none_known}
use Rattle.forecasting.proofs.known.KnownStarts.of.Goals as goal

pub returns-clause-unknown : goal.returns-clause-unknown
returns-clause-unknown c = none_known c.none-nothing.result c.none-nothing.ensures.entries c.followed.result c.followed.ensures.kept
