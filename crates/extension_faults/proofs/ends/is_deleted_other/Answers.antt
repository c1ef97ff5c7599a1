use Rattle.extension_faults.proofs.Looking.{both_is}
use Rattle.extension_faults.proofs.ends.is_deleted_other.Goals as goal

pub returns-then-is_other : goal.returns-then-is_other
returns-then-is_other c = λ said is. both_is ((c.is_other.ensures said is).0 c.if-is_other.true) c.has_been_deleted.ensures
