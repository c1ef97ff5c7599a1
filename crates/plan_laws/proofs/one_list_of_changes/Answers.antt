use Rattle.plan_laws.proofs.RowChanges.{some_changes}
use Rattle.plan_laws.proofs.RowOrder.{one_list_of_changes}
use Rattle.plan_laws.proofs.one_list_of_changes.Goals as goal

pub returns : goal.returns
returns c = record { some = some_changes; one = one_list_of_changes }
