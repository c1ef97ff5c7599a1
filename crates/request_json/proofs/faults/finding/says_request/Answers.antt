use Rattle.serde_json.specs.View.{view}
use Rattle.request_json.proofs.RequestFaultLaws.{says_is}
use Rattle.request_json.proofs.faults.finding.says_request.Goals as goal

pub returns : goal.returns
returns c = says_is (view c.args.value.now) c.in_ok-found.found c.is_some.result c.is_some.ensures c.in_ok-found.ensures
