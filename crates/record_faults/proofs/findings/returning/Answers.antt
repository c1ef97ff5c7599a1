use Rattle.record_faults.specs.Circles.{NoCircle}
use Rattle.record_faults.specs.Sayings.{texts_of}
use Rattle.record_faults.proofs.Returning.{some_returns}
use Rattle.record_faults.proofs.findings.returning.Goals as goal

pub unreachable-requires : goal.unreachable-requires
unreachable-requires c =
    let none : NoCircle c.deref.result.now = rw c.in-None.is at c.in_ok-circle.ensures in
    some_returns (texts_of c.args.records.now) c.args.reading.now c.requires.reading c.deref.result.now c.deref.ensures.value c.requires.faultless c.requires.no_plan none
