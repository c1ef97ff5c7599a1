use Rattle.plan_laws.proofs.RowChanges.{some_rows}
use Rattle.plan_laws.proofs.some_rows.Goals as goal

pub returns : goal.returns
returns c = some_rows
