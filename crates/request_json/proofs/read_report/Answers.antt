use Rattle.serde_json.specs.View.{view}
use Rattle.request_json.proofs.Exactly.{report_read}
use Rattle.request_json.proofs.read_report.Goals as goal

pub returns-in_ok-numbered_request-in-Some-clause-report : goal.returns-in_ok-numbered_request-in-Some-clause-report
returns-in_ok-numbered_request-in-Some-clause-report c =
    report_read c.args.body.now (view c.in-Some.value) c.in_ok-numbered_request-in-Some.field-0 (rw c.in-Some.is at c.in_ok-value.ensures) c.in_ok-numbered_request-in-Some.ensures

pub returns-in-None-clause-report : goal.returns-in-None-clause-report
returns-in-None-clause-report c = let none = rw c.in-None.is at c.in_ok-value.ensures in λ n h. none h.0 h.1
