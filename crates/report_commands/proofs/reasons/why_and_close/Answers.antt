use Rattle.std.proofs.Common.{FitsSigned, IfOk, rules, subst, to_z-of_z, w64}
use Rattle.plan_basics.specs.Watched.{inner_of}
use Rattle.report_commands.specs.Whys.{IsWhyShown}
use Rattle.report_commands.proofs.reasons.why_and_close.Goals as goal

pub returns-clause-shown : goal.returns-clause-shown
returns-clause-shown g c =
    let minute = c.minute_of-minute.result in
    let fits : FitsSigned w64 minute = search rules in
    let old = g.W.Write.contents (inner_of c.args.out.now) in
    let new = g.W.Write.contents (inner_of c.tell_why-shown.new.out) in
    let shown : IfOk c.tell_why-shown.result (IsWhyShown c.args.key.now minute c.args.desk.is_usable c.args.desk.plan old new) = simp to_z-of_z at c.tell_why-shown.ensures.shown in
    subst (λ z. IfOk c.tell_why-shown.result (IsWhyShown c.args.key.now z c.args.desk.is_usable c.args.desk.plan old new)) c.minute_of-minute.ensures shown
