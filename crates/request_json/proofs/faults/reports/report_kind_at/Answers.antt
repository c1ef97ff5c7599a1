use Rattle.serde_json.specs.View.{view}
use Rattle.std.proofs.Common.{true≢false, sym, ◌∙◌}
use Rattle.request_json.proofs.ReportFaultLaws.{no_do, no_report_do, report_kind_read}
use Rattle.request_json.proofs.faults.reports.report_kind_at.Goals as goal

pub returns-in_default : goal.returns-in_default
returns-in_default c = no_do (view c.args.value.now) c.in_default.ensures

pub returns-then-not-is_report : goal.returns-then-not-is_report
returns-then-not-is_report c = no_report_do (view c.args.value.now) c.in-Some.verb.now c.in-Some.ensures (λ v. true≢false (sym (c.is_report.ensures.1 v) ∙ c.if-not-is_report.true))

pub returns : goal.returns
returns c = report_kind_read (view c.args.value.now) c.in-Some.verb.now c.kind_of_verb.result c.in-Some.ensures (c.is_report.ensures.0 c.if-not-is_report.false) c.kind_of_verb.ensures
