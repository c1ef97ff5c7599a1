use Rattle.record_faults.specs.Sayings.{texts_of}
use Rattle.record_faults.proofs.Gathering.{place_more}
use Rattle.record_faults.proofs.gather.faults_of_places.Goals as goal

pub loop-place-preserved : goal.loop-place-preserved
loop-place-preserved c =
    place_more (texts_of c.args.records.now) c.args.reading.now.said.items c.loop-place.place c.loop-place.faults.items c.tell_place.new.faults.items c.loop-place.invariant c.in_ok-tell_place.ensures.told c.in_ok-tell_place.ensures.in_order c.in_ok-tell_place.ensures.once
