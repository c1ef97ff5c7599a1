use Rattle.std.proofs.Common.{length}
use Rattle.plan_basics.specs.Watched.{inner_of}
use Rattle.command_desks.specs.desk_tables.specs.Desk.{state_of, usability}
use Rattle.request_commands.proofs.Played.{SoFar}
use Rattle.request_commands.proofs.playing.play_lines.Given as goal

abbrev pub invariant-loop-line : goal.invariant-loop-line
invariant-loop-line g l =
    SoFar l.text (state_of l.initial.desk) (usability l.initial.desk.is_usable) (g.W.Write.contents (inner_of l.initial.out)) (g.W.Write.contents (inner_of l.out))
    l.number l.rest (state_of l.desk) (usability l.desk.is_usable) l.refused

abbrev pub decreases-loop-line : goal.decreases-loop-line
decreases-loop-line g l = length l.rest
