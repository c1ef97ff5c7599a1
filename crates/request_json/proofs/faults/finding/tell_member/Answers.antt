use Rattle.request_json.proofs.RequestFaultLaws.{by_property}
use Rattle.request_json.proofs.faults.finding.tell_member.Goals as goal

pub returns : goal.returns
returns c = λ f. by_property (c.in_ok-tell.ensures f) (c.in_ok-found.ensures f)
