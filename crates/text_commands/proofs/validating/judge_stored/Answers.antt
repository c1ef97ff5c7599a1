use Rattle.plan_basics.specs.Watched.{inner_of}
use Rattle.command_desks.specs.desk_tables.specs.Faults.{IsOpeningRefusal}
use Rattle.command_answers.proofs.Opened.{none_faults}
use Rattle.text_commands.proofs.Besides.{beside_opened, beside_unopened}
use Rattle.text_commands.proofs.validating.judge_stored.Goals as goal

pub returns-in-Ok-clause-shown : goal.returns-in-Ok-clause-shown
returns-in-Ok-clause-shown g c =
    beside_opened c.args.text.now (g.W.Write.contents (inner_of c.args.out.now)) (g.W.Write.contents (inner_of c.judge_and_close.new.out)) c.judge_and_close.result
    c.in-Ok.desk.plan c.judge_and_close.ensures.shown

pub returns-in-Err-clause-shown : goal.returns-in-Err-clause-shown
returns-in-Err-clause-shown g c =
    beside_unopened c.args.text.now (g.W.Write.contents (inner_of c.args.out.now)) (g.W.Write.contents (inner_of c.tell_no_desk.new.out)) c.tell_no_desk.result
    c.in-Err.none c.in-Err.ensures c.tell_no_desk.ensures.shown

pub returns-in-Err-clause-fault : goal.returns-in-Err-clause-fault
returns-in-Err-clause-fault g c = none_faults IsOpeningRefusal c.in-Err.none c.tell_no_desk.result c.in-Err.ensures c.tell_no_desk.ensures.fault
