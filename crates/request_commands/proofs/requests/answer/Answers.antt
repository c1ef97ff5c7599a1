use Rattle.plan_basics.specs.Watched.{inner_of}
use Rattle.plan_records.specs.Answer.{answer_of}
use Rattle.request_commands.proofs.Told.{request_answered}
use Rattle.request_commands.proofs.requests.answer.Goals as goal

pub returns-clause-shown : goal.returns-clause-shown
returns-clause-shown g c =
    request_answered c.tell-told.result (g.W.Write.contents (inner_of c.args.out.now)) (g.W.Write.contents (inner_of c.tell-told.new.out))
    c.args.request.now (answer_of c.reply_to-reply.result) c.reply_to-reply.ensures c.tell-told.ensures.shown
