use Rattle.plan_laws.proofs.Keeping.{only_intervals_go}
use Rattle.plan_laws.proofs.only_intervals_go.Goals as goal

pub returns : goal.returns
returns c = only_intervals_go
