use Rattle.std.proofs.Common.{FitsSigned, IfOk, ℕ, List, to_z-of_z, w64}
use Rattle.plan_basics.specs.Watched.{inner_of}
use Rattle.text_commands.specs.Besides.{IsBesideText}
use Rattle.text_commands.proofs.Besides.{beside_read}
use Rattle.text_commands.proofs.validating.validate_planned.Goals as goal

pub returns-in-Ok-clause-shown : goal.returns-in-Ok-clause-shown
returns-in-Ok-clause-shown g c =
    let fits : FitsSigned w64 c.args.at = c.ranges.at in
    let old = g.W.Write.contents (inner_of c.args.out.now) in
    let new = g.W.Write.contents (inner_of c.judge_of_file.new.out) in
    let text = c.deref.result.now in
    let shown : IfOk c.judge_of_file.result (IsBesideText text c.args.at old new) = simp to_z-of_z at c.judge_of_file.ensures.shown in
    beside_read (λ (bytes : List ℕ). IsBesideText bytes c.args.at old new) text c.judge_of_file.result shown
