use Rattle.plan_basics.specs.Watched.{inner_of}
use Rattle.command_desks.specs.desk_tables.specs.Faults.{IsOpeningRefusal}
use Rattle.command_answers.proofs.Opened.{none_faults}
use Rattle.request_commands.proofs.Told.{request_refused}
use Rattle.request_commands.proofs.requests.make_stored.Goals as goal

pub returns-in-Err-clause-shown : goal.returns-in-Err-clause-shown
returns-in-Err-clause-shown g c =
    request_refused c.tell_no_desk.result (g.W.Write.contents (inner_of c.args.out.now)) (g.W.Write.contents (inner_of c.tell_no_desk.new.out))
    c.args.request.now c.in-Err.none c.in-Err.ensures c.tell_no_desk.ensures.shown

pub returns-in-Err-clause-fault : goal.returns-in-Err-clause-fault
returns-in-Err-clause-fault g c = none_faults IsOpeningRefusal c.in-Err.none c.tell_no_desk.result c.in-Err.ensures c.tell_no_desk.ensures.fault
