use Rattle.std.proofs.Common.{FitsSigned, IfOk, to_z-of_z, w64}
use Rattle.plan_basics.specs.Watched.{inner_of}
use Rattle.report_commands.specs.Prospects.{IsProspectPlanned}
use Rattle.report_commands.proofs.Prospected.{of_text}
use Rattle.report_commands.proofs.prospects.prospect_of_file.Goals as goal

pub returns-in-Ok-clause-shown : goal.returns-in-Ok-clause-shown
returns-in-Ok-clause-shown g c =
    let fits : FitsSigned w64 c.args.from = c.ranges.from in
    let old = g.W.Write.contents (inner_of c.args.out.now) in
    let new = g.W.Write.contents (inner_of c.prospect_planned.new.out) in
    let shown : IfOk c.prospect_planned.result (IsProspectPlanned c.args.prospect c.args.from c.args.until c.in-Ok.draft old new) =
    simp to_z-of_z at c.prospect_planned.ensures.shown in
    of_text c.args.prospect old new c.prospect_planned.result c.args.until c.args.from c.in-Ok.draft shown
