use Rattle.tracker_http.proofs.asking.tell_read.Goals as goal

pub returns-in-Report-clause-told : goal.returns-in-Report-clause-told
returns-in-Report-clause-told g c = rw c.in-Report.is (rw c.deref.ensures.value at c.tell_report.ensures.told)

pub returns-in-Operator-clause-told : goal.returns-in-Operator-clause-told
returns-in-Operator-clause-told g c =
    let reads = rw c.in-Operator.is at c.requires in
    rw c.in-Operator.is (c.tell_operator.ensures.told c.in-Operator.field-0.items reads.reading)
