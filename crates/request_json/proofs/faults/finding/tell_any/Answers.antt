use Rattle.serde_json.specs.View.{view}
use Rattle.request_json.proofs.RequestFaultLaws.{by_property, any_is, unchanged}
use Rattle.request_json.proofs.faults.finding.tell_any.Goals as goal

pub returns-in_default : goal.returns-in_default
returns-in_default c = λ f. rw c.in_default.is (unchanged (view c.args.value.now) f)

pub returns : goal.returns
returns c = λ f. rw c.in-Some.is (by_property (c.in_ok-tell_member.ensures f) (any_is (view c.args.value.now) c.in-Some.name f))
