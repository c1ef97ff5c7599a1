use Rattle.record_faults.specs.Sayings.{texts_of}
use Rattle.extension_faults.proofs.NeverTold.{never_all}
use Rattle.extension_faults.proofs.warning.never_starting.Goals as goal

pub returns : goal.returns
returns c =
    never_all c.args.plan.now.plan (texts_of c.args.records.now) c.in_ok-said.said.items c.in_ok-said.ensures c.deref.result.now c.deref.ensures.value c.in_ok-places.places.items c.in_ok-places.ensures
