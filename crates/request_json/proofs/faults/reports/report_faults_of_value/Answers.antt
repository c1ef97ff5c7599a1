use Rattle.std.proofs.Common.{◌↔◌, sym, subst, ◌∙◌, Contains}
use Rattle.serde_json.specs.Find.{as_object}
use Rattle.serde_json.specs.View.{view}
use Rattle.request_json.specs.ReportFaults.{IsReportFaultOfValue}
use Rattle.request_json.proofs.Found.{none_by, some_by}
use Rattle.request_json.proofs.ReportFaultLaws.{no_object_report, report_object_told}
use Rattle.request_json.proofs.faults.reports.report_faults_of_value.Goals as goal

pub returns-then-not-is_object : goal.returns-then-not-is_object
returns-then-not-is_object c =
    let d = view c.args.value.now in
    let is = none_by (as_object d) (sym c.if-not-is_object.ensures) in
    λ f. subst (λ xs. Contains xs f ↔ IsReportFaultOfValue d f) (sym c.in_ok-alone.ensures.items) (no_object_report d is f)

pub returns : goal.returns
returns c =
    let d = view c.args.value.now in
    report_object_told d (some_by (as_object d) (sym c.is_object.ensures ∙ c.if-not-is_object.false)) c.in_ok-faults.faults.items c.in_ok-faults.ensures
