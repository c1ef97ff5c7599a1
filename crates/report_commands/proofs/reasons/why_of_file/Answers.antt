use Rattle.std.proofs.Common.{FitsSigned, IfOk, to_z-of_z, w64}
use Rattle.std.proofs.lemmas.Result.{IfOk-weaker}
use Rattle.plan_basics.specs.Watched.{inner_of}
use Rattle.report_commands.specs.Whys.{IsWhyOfText, IsWhyPlanned}
use Rattle.command_answers.specs.declared.endings.Ending.{Ending}
use Rattle.report_commands.proofs.reasons.why_of_file.Goals as goal

pub returns-in-Ok-clause-shown : goal.returns-in-Ok-clause-shown
returns-in-Ok-clause-shown g c =
    let fits : FitsSigned w64 c.args.at = c.ranges.at in
    let old = g.W.Write.contents (inner_of c.args.out.now) in
    let new = g.W.Write.contents (inner_of c.why_planned.new.out) in
    let draft = c.in-Ok.draft in
    let shown : IfOk c.why_planned.result (IsWhyPlanned c.args.key.now c.args.at draft old new) = simp to_z-of_z at c.why_planned.ensures.shown in
    IfOk-weaker c.why_planned.result (IsWhyPlanned c.args.key.now c.args.at draft old new) (IsWhyOfText c.args.key.now c.args.at old new)
    (λ (e : Ending) (was : IsWhyPlanned c.args.key.now c.args.at draft old new e). (draft, was)) shown
