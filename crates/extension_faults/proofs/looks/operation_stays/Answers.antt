use Rattle.std.proofs.Common.{sym}
use Rattle.extension_faults.proofs.Looking.{both_is}
use Rattle.extension_faults.proofs.looks.operation_stays.Goals as goal

pub returns-then-is_some : goal.returns-then-is_some
returns-then-is_some c = both_is (c.view_op.ensures.some.0 (sym c.if-is_some.ensures)) c.stays.ensures
