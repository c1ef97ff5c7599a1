use Rattle.std.proofs.Common.{◌≡◌, Err, FitsSigned, pos, refl, to_z-of_z, w64}
use Rattle.plan_basics.specs.Watched.{inner_of}
use Rattle.plan_basics.specs.declared.Refusal.{Refusal}
use Rattle.plan_reports.specs.Reports.{IsOwed, why_refusal_of}
use Rattle.plan_reports.specs.declared.reports.ReportFault.TheVariants as fault
use Rattle.report_commands.proofs.Reasoned.{why_ends}
use Rattle.report_commands.proofs.reasons.tell_why.Goals as goal

pub returns-clause-shown : goal.returns-clause-shown
returns-clause-shown g c =
    let fits : FitsSigned w64 c.args.minute = c.ranges.minute in
    let is : c.args.minute ≡ pos c.in-Some.at = simp to_z-of_z at c.in-Some.ensures.value in
    let old = g.W.Write.contents (inner_of c.args.out.now) in
    let between = g.W.Write.contents (inner_of c.why_report-written.new.writer) in
    let owed = why_refusal_of c.args.desk.now.is_usable c.args.desk.now.plan c.args.key.now in
    let refused : (r : Refusal) → c.why_report-written.result ≡ Err (fault.Refused r) → IsOwed owed r × (between ≡ old) =
    λ r e. let found = c.why_report-written.ensures.refused r e in (found.0, rw found.1 refl) in
    why_ends c.args.key.now old (g.W.Write.contents (inner_of c.end_of.new.out)) c.end_of.result c.args.minute c.args.desk.now.is_usable c.args.desk.now.plan
    c.in-Some.at is between c.why_report-written.result c.why_report-written.ensures.written refused c.end_of.ensures.shown
