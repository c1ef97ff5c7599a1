use Rattle.record_faults.proofs.Warned.{not_is}
use Rattle.extension_faults.proofs.Looking.{both_is}
use Rattle.extension_faults.proofs.ends.is_other_under_way.Goals as goal

pub returns-then-is_other : goal.returns-then-is_other
returns-then-is_other c = λ said is. both_is ((c.is_other.ensures said is).0 c.if-is_other.true) (not_is c.waits_or_is_ready.result c.waits_or_is_ready.ensures)
