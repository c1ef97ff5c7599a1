use Rattle.plan_laws.proofs.Tabling.{rows_tell_receipts}
use Rattle.plan_laws.proofs.rows_tell_receipts.Goals as goal

pub returns : goal.returns
returns c = rows_tell_receipts
