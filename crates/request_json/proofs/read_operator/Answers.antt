use Rattle.serde_json.specs.View.{view}
use Rattle.request_json.proofs.Exactly.{request_read}
use Rattle.request_json.proofs.read_operator.Goals as goal

pub returns-in_ok-read_request-in-Some-clause-request : goal.returns-in_ok-read_request-in-Some-clause-request
returns-in_ok-read_request-in-Some-clause-request c =
    request_read c.args.body.now (view c.in-Some.value) c.in_ok-read_request-in-Some.field-0 (rw c.in-Some.is at c.in_ok-value.ensures) c.in_ok-read_request-in-Some.ensures

pub returns-in-None-clause-request : goal.returns-in-None-clause-request
returns-in-None-clause-request c = let none = rw c.in-None.is at c.in_ok-value.ensures in λ r h. none h.0 h.1
