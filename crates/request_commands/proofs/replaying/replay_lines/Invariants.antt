use Rattle.std.proofs.Common.{length}
use Rattle.plan_basics.specs.Watched.{inner_of}
use Rattle.tracker_http.specs.Exchange.{seen}
use Rattle.request_commands.proofs.Replayed.{SoFarTaken}
use Rattle.request_commands.proofs.replaying.replay_lines.Given as goal

abbrev pub invariant-loop-text : goal.invariant-loop-text
invariant-loop-text g l =
    SoFarTaken l.journal (seen l.initial.desk) (g.W.Write.contents (inner_of l.initial.out)) (g.W.Write.contents (inner_of l.out))
    l.number l.waiting l.rest (seen l.desk)

abbrev pub decreases-loop-text : goal.decreases-loop-text
decreases-loop-text g l = length l.rest
