use Rattle.std.proofs.Common.{◌≡◌, Err, refl}
use Rattle.std.proofs.lemmas.Result.{IfOk-weaker}
use Rattle.plan_basics.specs.Watched.{inner_of}
use Rattle.plan_basics.specs.declared.Refusal.{Refusal}
use Rattle.plan_reports.specs.Reports.{IsOwed}
use Rattle.plan_reports.specs.declared.reports.ReportFault.TheVariants as fault
use Rattle.report_commands.specs.Shown.{IsEndOf, IsReport, IsReportShown, report_refusal_of}
use Rattle.report_commands.proofs.Ended.{told}
use Rattle.report_commands.proofs.reports.show.Goals as goal

pub returns-clause-shown : goal.returns-clause-shown
returns-clause-shown g c =
    let owed = report_refusal_of c.args.kind.now c.args.desk.now.is_usable c.args.desk.now.plan in
    let old = g.W.Write.contents (inner_of c.args.out.now) in
    let between = g.W.Write.contents (inner_of c.write_report-written.new.out) in
    let new = g.W.Write.contents (inner_of c.end_of.new.out) in
    let refused : (r : Refusal) → c.write_report-written.result ≡ Err (fault.Refused r) → IsOwed owed r × (between ≡ old) =
    λ r is. let found = c.write_report-written.ensures.refused r is in (found.0, rw found.1 refl) in
    IfOk-weaker c.end_of.result (IsEndOf c.write_report-written.result between new) (IsReportShown c.args.kind.now c.args.desk.now.is_usable c.args.desk.now.plan old new)
    (told owed (IsReport c.args.kind.now c.args.desk.now.plan) old between new c.write_report-written.result c.write_report-written.ensures.written refused)
    c.end_of.ensures.shown
