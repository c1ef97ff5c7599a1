use Rattle.request_json.proofs.RequestFaultLaws.{by_property, then_told}
use Rattle.request_json.proofs.faults.reports.tell_report_kind.Goals as goal

pub returns : goal.returns
returns c = λ f.
    then_told (rw c.first_member.ensures at c.in_ok-tell_any.ensures f) (then_told (rw c.second_member.ensures at c.in_ok-tell_any-2.ensures f) (by_property (c.in_ok-tell.ensures f) (c.others_in_report.ensures f)))
