use Rattle.plan_basics.specs.Watched.{inner_of}
use Rattle.tracker_http.specs.Exchange.{seen}
use Rattle.request_commands.proofs.Replayed.{carried}
use Rattle.request_commands.proofs.replaying.carry_out.Goals as goal

pub returns-in-Ok-clause-taken : goal.returns-in-Ok-clause-taken
returns-in-Ok-clause-taken g c =
    carried c.args.answer.number c.args.answer.text.now c.args.asked.now (seen c.args.desk.now) (seen c.tell_within.new.desk) c.in-Ok.told
    (g.W.Write.contents (inner_of c.args.out.now)) (g.W.Write.contents (inner_of c.compare_told.new.out)) c.compare_told.result c.in-Ok.ensures.told c.compare_told.ensures.compared
