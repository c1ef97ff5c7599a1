use Rattle.plan_laws.proofs.Tabling.{each_has_one_row}
use Rattle.plan_laws.proofs.each_has_one_row.Goals as goal

pub returns : goal.returns
returns c = each_has_one_row
