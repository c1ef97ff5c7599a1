use Rattle.plan_laws.proofs.Work.{one_allowance, some_allowance}
use Rattle.plan_laws.proofs.one_allowance.Goals as goal

pub returns : goal.returns
returns c = record { some = some_allowance; one = one_allowance }
