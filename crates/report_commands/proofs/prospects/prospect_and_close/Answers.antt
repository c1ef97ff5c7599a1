use Rattle.std.proofs.Common.{FitsSigned, IfOk, rules, subst, to_z-of_z, w64}
use Rattle.plan_basics.specs.Watched.{inner_of}
use Rattle.report_commands.specs.Prospects.{IsProspectShown}
use Rattle.report_commands.proofs.prospects.prospect_and_close.Goals as goal

pub returns-clause-shown : goal.returns-clause-shown
returns-clause-shown g c =
    let from = c.minute_of-from.result in
    let fits : FitsSigned w64 from = search rules in
    let r = c.tell_prospect-shown.result in
    let old = g.W.Write.contents (inner_of c.args.out.now) in
    let new = g.W.Write.contents (inner_of c.tell_prospect-shown.new.out) in
    let of_lent : IfOk r (IsProspectShown c.args.prospect c.plan.result.now.plan from c.args.until old new) = simp to_z-of_z at c.tell_prospect-shown.ensures.shown in
    let of_plan : IfOk r (IsProspectShown c.args.prospect c.args.desk.plan from c.args.until old new) =
    subst (λ P. IfOk r (IsProspectShown c.args.prospect P from c.args.until old new)) c.plan.ensures.plan of_lent in
    subst (λ z. IfOk r (IsProspectShown c.args.prospect c.args.desk.plan z c.args.until old new)) c.minute_of-from.ensures of_plan
