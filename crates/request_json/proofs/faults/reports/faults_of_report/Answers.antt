use Rattle.std.proofs.Common.{◌↔◌, sym, subst, Contains}
use Rattle.serde_json.specs.View.{view}
use Rattle.request_json.specs.ReportFaults.{IsReportFault}
use Rattle.request_json.proofs.ReportFaultLaws.{no_json_report, report_value_told}
use Rattle.request_json.proofs.faults.reports.faults_of_report.Goals as goal

pub returns-in_default : goal.returns-in_default
returns-in_default c =
    let body = c.args.body.now in
    let none = rw c.in_default.is at c.in_ok-value.ensures in
    λ f. subst (λ xs. Contains xs f ↔ IsReportFault body f) (sym c.in_ok-alone.ensures.items) (no_json_report body none f)

pub returns : goal.returns
returns c = report_value_told c.args.body.now (view c.in-Some.value) (rw c.in-Some.is at c.in_ok-value.ensures) c.in_ok-faults.faults.items c.in_ok-faults.ensures
