use Rattle.record_faults.proofs.Warned.{third_is}
use Rattle.extension_faults.proofs.staying.pair_stays.Goals as goal

pub returns-then-stays : goal.returns-then-stays
returns-then-stays c = third_is c.requires (c.stays.ensures.0 c.if-stays.true) c.stays-then-stays.ensures
