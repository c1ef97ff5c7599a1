use Rattle.serde_json.specs.View.{view}
use Rattle.request_json.proofs.RequestFaultLaws.{by_property, of_kind_told}
use Rattle.request_json.proofs.faults.finding.tell_kind.Goals as goal

pub returns : goal.returns
returns c = λ f.
    of_kind_told (view c.args.value.now) c.args.kind f (rw c.first_member.ensures at c.in_ok-tell_any.ensures f) (rw c.second_member.ensures at c.in_ok-tell_any-2.ensures f) (by_property (c.in_ok-tell.ensures f) (c.others.ensures f))
