use Rattle.record_faults.proofs.Warned.{own_deadline, other_deadline}
use Rattle.record_faults.proofs.warnings.deadline_of.Goals as goal

pub returns-in-Some : goal.returns-in-Some
returns-in-Some c = own_deadline c.args.openings.now.said.items c.args.operation.now c.in-Some.deadline c.in-Some.is

pub returns-in-None : goal.returns-in-None
returns-in-None c = other_deadline c.args.openings.now.said.items c.args.operation.now c.in-None.is c.deadline_of_occurrence.result c.deadline_of_occurrence.ensures
