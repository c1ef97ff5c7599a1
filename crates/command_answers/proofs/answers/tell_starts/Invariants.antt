use Rattle.std.proofs.Common.{take}
use Rattle.std.specs.Prelude.{flat_map}
use Rattle.std.specs.Io.KnownBytes.{Appends}
use Rattle.plan_basics.specs.Watched.{inner_of}
use Rattle.command_answers.specs.Answers.{start_line}
use Rattle.command_answers.proofs.answers.tell_starts.Given as goal

abbrev pub invariant-loop-key : goal.invariant-loop-key
invariant-loop-key g l =
    Appends (g.W.Write.contents (inner_of l.initial.out)) (g.W.Write.contents (inner_of l.out)) (flat_map start_line (take l.key-index l.named))
