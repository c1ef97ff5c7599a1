use Rattle.serde_json.specs.View.{view}
use Rattle.request_json.proofs.RequestFaultLaws.{contains_none, of_object_told, of_unknown_told}
use Rattle.request_json.proofs.faults.finding.faults_of_object.Goals as goal

pub returns-in_default : goal.returns-in_default
returns-in_default c = λ f.
    of_unknown_told (view c.args.value.now) f c.in_default.ensures (λ h. contains_none f (rw c.new-faults.ensures.items at h)) (c.in_ok-tell_member.ensures f) (c.in_ok-tell_member-2.ensures f)

pub returns : goal.returns
returns c = λ f.
    of_object_told (view c.args.value.now) c.in-Some.kind f c.in-Some.ensures (λ h. contains_none f (rw c.new-faults.ensures.items at h)) (c.in_ok-tell_member.ensures f) (c.in_ok-tell_member-2.ensures f) (c.in_ok-tell_kind.ensures f)
