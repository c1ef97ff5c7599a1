use Rattle.std.proofs.Common.{FitsSigned, IfOk, List, subst, to_z-of_z, w64}
use Rattle.plan_basics.specs.Watched.{inner_of}
use Rattle.plan_basics.specs.declared.keys.OpKey.{OpKey}
use Rattle.plan_records.specs.Answer.{accepted}
use Rattle.command_desks.specs.desk_tables.specs.Desk.{state_of}
use Rattle.command_answers.specs.Opened.{IsWhyNoDesk}
use Rattle.report_commands.specs.Prospects.{IsProspectShown}
use Rattle.command_desks.specs.Loaded.{IsLoadRefusal, IsLoaded}
use Rattle.report_commands.proofs.Prospected.{of_loaded, of_unloaded}
use Rattle.report_commands.proofs.prospects.prospect_planned.Goals as goal

pub returns-in-Ok-clause-shown : goal.returns-in-Ok-clause-shown
returns-in-Ok-clause-shown g c =
    let fits : FitsSigned w64 c.args.from = c.ranges.from in
    let r = c.tell_prospect-shown.result in
    let old = g.W.Write.contents (inner_of c.args.out.now) in
    let new = g.W.Write.contents (inner_of c.tell_prospect-shown.new.out) in
    let loads : (named : List OpKey) × IsLoaded c.args.from c.args.draft (accepted named) (state_of c.in-Ok.desk) = simp to_z-of_z at c.in-Ok.ensures.loaded in
    let of_lent : IfOk r (IsProspectShown c.args.prospect c.plan.result.now.plan c.args.from c.args.until old new) = simp to_z-of_z at c.tell_prospect-shown.ensures.shown in
    let of_plan : IfOk r (IsProspectShown c.args.prospect c.in-Ok.desk.plan c.args.from c.args.until old new) =
    subst (λ P. IfOk r (IsProspectShown c.args.prospect P c.args.from c.args.until old new)) c.plan.ensures.plan of_lent in
    of_loaded c.args.prospect old new r c.args.until c.args.from c.args.draft loads.0 (state_of c.in-Ok.desk) loads.1 of_plan

pub returns-in-Err-clause-shown : goal.returns-in-Err-clause-shown
returns-in-Err-clause-shown g c =
    let fits : FitsSigned w64 c.args.from = c.ranges.from in
    let why : IsWhyNoDesk (IsLoadRefusal c.args.from c.args.draft) c.in-Err.none = simp to_z-of_z at c.in-Err.ensures.refused in
    of_unloaded c.args.prospect (g.W.Write.contents (inner_of c.args.out.now)) (g.W.Write.contents (inner_of c.tell_no_desk.new.out)) c.tell_no_desk.result
    c.args.until c.args.from c.args.draft c.in-Err.none why c.tell_no_desk.ensures.shown
