use Rattle.std.proofs.Common.{FitsSigned, rules, to_z-of_z, w64}
use Rattle.plan_basics.specs.Watched.{inner_of}
use Rattle.command_desks.specs.desk_tables.specs.Desk.{state_of, usability}
use Rattle.request_commands.proofs.Played.{turn_played}
use Rattle.request_commands.proofs.playing.play_request.Goals as goal

pub returns : goal.returns
returns g c =
    let fits : FitsSigned w64 c.args.request.now.at = search rules in
    let head = c.in_ok-tell_head.ensures.shown in
    turn_played c.args.number c.args.request.now head.0 (state_of c.args.desk.now) (usability c.args.desk.now.is_usable)
    (g.W.Write.contents (inner_of c.args.out.now)) (g.W.Write.contents (inner_of c.tell_head.new.out)) (g.W.Write.contents (inner_of c.play_turn.new.out))
    c.play_turn.result (state_of c.play_turn.new.desk) (usability c.play_turn.new.desk.is_usable) (simp to_z-of_z at head.1) head.2 c.play_turn.ensures.played c.play_turn.ensures.fault
