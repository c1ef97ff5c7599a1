use Rattle.record_faults.proofs.Warned.{not_is}
use Rattle.extension_faults.proofs.Looking.{both_is}
use Rattle.extension_faults.proofs.ends.is_other.Goals as goal

pub returns-then-operation_stays : goal.returns-then-operation_stays
returns-then-operation_stays c = λ said is. both_is (c.operation_stays.ensures.0 c.if-operation_stays.true) (not_is c.is_own.result (c.is_own.ensures said is))
