use Rattle.record_faults.specs.Sayings.{texts_of}
use Rattle.extension_faults.proofs.ToldPaths.{found_in}
use Rattle.extension_faults.proofs.whole.circle_in.Goals as goal

pub returns : goal.returns
returns c =
    found_in c.args.plan.now.plan.contents (texts_of c.args.records.now) c.in_ok-said.said.items c.deref.result.now c.in_ok-found.found c.in_ok-said.ensures c.deref.ensures.value c.in_ok-found.ensures
