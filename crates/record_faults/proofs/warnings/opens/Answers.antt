use Rattle.record_faults.proofs.Warned.{opens_is}
use Rattle.record_faults.proofs.warnings.opens.Goals as goal

pub returns : goal.returns
returns c = opens_is c.args.openings.now.said.items c.args.workstation.now c.last_interval.result c.is_some.result c.is_some.ensures c.last_interval.ensures
