use Rattle.plan_basics.specs.Watched.{inner_of}
use Rattle.plan_records.specs.Answer.{answer_of}
use Rattle.command_desks.specs.desk_tables.specs.Desk.{state_of, usability}
use Rattle.request_commands.proofs.Played.{turn_answered}
use Rattle.request_commands.proofs.playing.play_turn.Goals as goal

pub returns-clause-played : goal.returns-clause-played
returns-clause-played g c =
    turn_answered c.args.request.now (answer_of c.call-reply.result) (state_of c.args.desk.now) (usability c.args.desk.now.is_usable)
    (g.W.Write.contents (inner_of c.args.out.now)) (g.W.Write.contents (inner_of c.tell_turn.new.out)) c.tell_turn.result
    (state_of c.call-reply.new.self) (usability c.call-reply.new.self.is_usable) c.call-reply.ensures.answers c.tell_turn.ensures.shown
