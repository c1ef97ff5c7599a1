use Rattle.request_json.proofs.RequestFaultLaws.{then_told}
use Rattle.request_json.proofs.faults.reports.tell_two.Goals as goal

pub returns : goal.returns
returns c = λ f. then_told (c.in_ok-tell_member.ensures f) (c.in_ok-tell_member-2.ensures f)
