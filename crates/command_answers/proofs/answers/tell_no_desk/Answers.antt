use Rattle.std.proofs.Common.{refl}
use Rattle.command_answers.proofs.answers.tell_no_desk.Goals as goal

pub returns-in-Refused-clause-shown : goal.returns-in-Refused-clause-shown
returns-in-Refused-clause-shown g c = rw c.in-Refused.is c.tell.ensures.shown

pub returns-in-Refused-clause-fault : goal.returns-in-Refused-clause-fault
returns-in-Refused-clause-fault g c = rw c.in-Refused.is c.tell.ensures.fault

pub returns-in-Faulty-clause-fault : goal.returns-in-Faulty-clause-fault
returns-in-Faulty-clause-fault g c = rw c.in-Faulty.is refl
