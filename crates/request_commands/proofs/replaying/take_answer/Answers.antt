use Rattle.plan_basics.specs.Watched.{inner_of}
use Rattle.tracker_http.specs.Exchange.{seen}
use Rattle.request_commands.proofs.Replayed.{accepted_taken, failed_taken, refused_taken}
use Rattle.request_commands.proofs.replaying.take_answer.Goals as goal

pub returns-in-Accepted-clause-taken : goal.returns-in-Accepted-clause-taken
returns-in-Accepted-clause-taken g c =
    accepted_taken c.args.answer.number c.args.request.now c.args.status c.args.answer.text.now (seen c.args.desk.now)
    (g.W.Write.contents (inner_of c.args.out.now)) (g.W.Write.contents (inner_of c.carry_out.new.out)) (seen c.carry_out.new.desk) c.carry_out.result c.in-Accepted.ensures c.carry_out.ensures.taken

pub returns-in-Failed-clause-taken : goal.returns-in-Failed-clause-taken
returns-in-Failed-clause-taken g c =
    failed_taken c.args.answer.number c.args.request.now c.args.status c.args.answer.text.now (seen c.args.desk.now)
    (g.W.Write.contents (inner_of c.args.out.now)) (g.W.Write.contents (inner_of c.tell_failed.new.out)) c.tell_failed.result c.in-Failed.ensures c.tell_failed.ensures.shown

pub returns-in-Refused-clause-taken : goal.returns-in-Refused-clause-taken
returns-in-Refused-clause-taken g c =
    let old = g.W.Write.contents (inner_of c.args.out.now) in
    refused_taken c.args.answer.number c.args.request.now c.args.status c.args.answer.text.now (seen c.args.desk.now) old old c.in-Refused.ensures
