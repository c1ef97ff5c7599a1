use Rattle.std.proofs.Common.{ℕ, List}
use Rattle.plan_basics.specs.Watched.{inner_of}
use Rattle.text_commands.specs.Besides.{IsBesideDesk}
use Rattle.text_commands.proofs.Besides.{beside_read}
use Rattle.text_commands.proofs.validating.validate_stored.Goals as goal

pub returns-in-Ok-clause-shown : goal.returns-in-Ok-clause-shown
returns-in-Ok-clause-shown g c =
    beside_read (λ (bytes : List ℕ). IsBesideDesk bytes (g.W.Write.contents (inner_of c.args.out.now)) (g.W.Write.contents (inner_of c.judge_stored.new.out)))
    c.deref.result.now c.judge_stored.result c.judge_stored.ensures.shown
