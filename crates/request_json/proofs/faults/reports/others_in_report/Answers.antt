use Rattle.std.proofs.Common.{sym, ◌∙◌}
use Rattle.serde_json.specs.View.{view}
use Rattle.request_json.specs.ReportFaults.{report_members}
use Rattle.request_json.proofs.RequestFaultLaws.{no_count, same_count, other_count}
use Rattle.request_json.proofs.ReportFaultLaws.{no_report_others_is, report_others_is}
use Rattle.request_json.proofs.faults.reports.others_in_report.Goals as goal

pub returns-in_default : goal.returns-in_default
returns-in_default c =
    let d = view c.args.value.now in
    report_others_is d c.args.kind (no_count d (report_members d c.args.kind) c.in_default.ensures)

pub returns-then-count-known_in_report : goal.returns-then-count-known_in_report
returns-then-count-known_in_report c =
    let d = view c.args.value.now in
    no_report_others_is d c.args.kind (same_count d c.in-Some.count (report_members d c.args.kind) c.in-Some.ensures (c.if-count-known_in_report.true ∙ c.known_in_report.ensures))

pub returns : goal.returns
returns c =
    let d = view c.args.value.now in
    report_others_is d c.args.kind (other_count d c.in-Some.count (report_members d c.args.kind) c.in-Some.ensures (λ e. c.if-count-known_in_report.false (e ∙ sym c.known_in_report.ensures)))
