use Rattle.std.proofs.Common.{FitsSigned, IfOk, to_z-of_z, w64}
use Rattle.plan_basics.specs.Watched.{inner_of}
use Rattle.text_commands.specs.Besides.{IsBesidePlanned}
use Rattle.text_commands.proofs.Besides.{beside_some_draft}
use Rattle.text_commands.proofs.validating.judge_of_file.Goals as goal

pub returns-in-Ok-clause-shown : goal.returns-in-Ok-clause-shown
returns-in-Ok-clause-shown g c =
    let fits : FitsSigned w64 c.args.at = c.ranges.at in
    let old = g.W.Write.contents (inner_of c.args.out.now) in
    let new = g.W.Write.contents (inner_of c.judge_planned.new.out) in
    let draft = c.in-Ok.draft in
    let shown : IfOk c.judge_planned.result (IsBesidePlanned c.args.text.now c.args.at draft old new) = simp to_z-of_z at c.judge_planned.ensures.shown in
    beside_some_draft c.args.text.now old new c.judge_planned.result c.args.at draft shown
