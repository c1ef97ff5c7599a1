use Rattle.serde_json.specs.View.{view}
use Rattle.request_json.proofs.RequestFaultLaws.{contains_none}
use Rattle.request_json.proofs.ReportFaultLaws.{report_told, unknown_told}
use Rattle.request_json.proofs.faults.reports.report_faults_of_object.Goals as goal

pub returns-in_default : goal.returns-in_default
returns-in_default c = λ f.
    unknown_told (view c.args.value.now) f c.in_default.ensures (λ h. contains_none f (rw c.new-faults.ensures.items at h)) (c.in_ok-tell_two.ensures f) (c.in_ok-tell_two-2.ensures f)

pub returns : goal.returns
returns c = λ f.
    report_told (view c.args.value.now) c.in-Some.kind f c.in-Some.ensures (λ h. contains_none f (rw c.new-faults.ensures.items at h)) (c.in_ok-tell_two.ensures f) (c.in_ok-tell_two-2.ensures f) (c.in_ok-tell_report_kind.ensures f)
