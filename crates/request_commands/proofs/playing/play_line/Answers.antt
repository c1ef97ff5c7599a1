use Rattle.plan_basics.specs.Watched.{inner_of}
use Rattle.command_desks.specs.desk_tables.specs.Desk.{state_of, usability}
use Rattle.command_answers.specs.Given.{IsNoRequest}
use Rattle.request_commands.proofs.Played.{line_unread}
use Rattle.request_commands.proofs.Told.{no_request}
use Rattle.request_commands.proofs.playing.play_line.Goals as goal

pub returns-in-Ok : goal.returns-in-Ok
returns-in-Ok g c = c.play_request.ensures c.args.line.now c.in-Ok.ensures.request

pub returns-in-Err-Request : goal.returns-in-Err-Request
returns-in-Err-Request g c =
    line_unread c.args.number c.args.line.now (state_of c.args.desk.now) (usability c.args.desk.now.is_usable)
    (g.W.Write.contents (inner_of c.args.out.now)) (g.W.Write.contents (inner_of c.tell_no_request.new.out)) c.tell_no_request.result
    (no_request (IsNoRequest c.args.line.now) c.in-Err-Request.field-0 c.in-Err-Request.field-0-is c.in-Err-Request.ensures.fault) c.tell_no_request.ensures
