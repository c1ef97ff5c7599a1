use Rattle.std.proofs.Common.{arith}
use Rattle.plan_basics.specs.Watched.{inner_of}
use Rattle.text_commands.proofs.JudgedBeside.{some_shown}
use Rattle.text_commands.proofs.beside.tell_whole.Goals as goal

pub returns-then-is_empty-clause-shown : goal.returns-then-is_empty-clause-shown
returns-then-is_empty-clause-shown g c =
    some_shown (g.W.Write.contents (inner_of c.args.out.now)) (g.W.Write.contents (inner_of c.tell_found.new.out)) c.tell_found.result
    1 (λ none. omega (arith, none)) c.tell_found.ensures.shown
