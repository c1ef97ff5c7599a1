use Rattle.plan_basics.specs.Watched.{inner_of}
use Rattle.command_desks.specs.desk_tables.specs.Faults.{IsOpeningRefusal}
use Rattle.command_answers.proofs.Opened.{none_faults}
use Rattle.report_commands.proofs.Reasoned.{why_of_desk, why_unopened}
use Rattle.report_commands.proofs.reasons.why_stored.Goals as goal

pub returns-in-Ok-clause-shown : goal.returns-in-Ok-clause-shown
returns-in-Ok-clause-shown g c =
    why_of_desk c.args.key.now (g.W.Write.contents (inner_of c.args.out.now)) (g.W.Write.contents (inner_of c.why_and_close.new.out)) c.why_and_close.result
    c.args.minute c.in-Ok.desk.is_usable c.in-Ok.desk.plan c.why_and_close.ensures.shown

pub returns-in-Err-clause-shown : goal.returns-in-Err-clause-shown
returns-in-Err-clause-shown g c =
    why_unopened c.args.key.now (g.W.Write.contents (inner_of c.args.out.now)) (g.W.Write.contents (inner_of c.tell_no_desk.new.out)) c.tell_no_desk.result
    c.args.minute c.in-Err.none c.in-Err.ensures c.tell_no_desk.ensures.shown

pub returns-in-Err-clause-fault : goal.returns-in-Err-clause-fault
returns-in-Err-clause-fault g c = none_faults IsOpeningRefusal c.in-Err.none c.tell_no_desk.result c.in-Err.ensures c.tell_no_desk.ensures.fault
