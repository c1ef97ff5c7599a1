use Rattle.record_faults.specs.Sayings.{texts_of}
use Rattle.record_faults.proofs.Gathering.{all_told}
use Rattle.record_faults.proofs.gather.all_faults.Goals as goal

pub returns : goal.returns
returns c =
    all_told (texts_of c.args.records.now) c.args.reading.now.said.items c.in_ok-faults.faults.items c.tell_missing.new.faults.items c.tell_missing-2.new.faults.items c.in_ok-faults.ensures c.in_ok-tell_missing.ensures.told c.in_ok-tell_missing-2.ensures.told
    c.in_ok-tell_missing.ensures.in_order c.in_ok-tell_missing-2.ensures.in_order c.in_ok-tell_missing.ensures.once c.in_ok-tell_missing-2.ensures.once
