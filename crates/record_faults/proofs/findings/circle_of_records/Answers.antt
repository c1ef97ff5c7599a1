use Rattle.std.proofs.Common.{◌≡◌}
use Rattle.record_faults.specs.Sayings.{texts_of, given}
use Rattle.record_faults.proofs.Returning.{circle_found}
use Rattle.record_faults.proofs.findings.circle_of_records.Goals as goal

pub returns : goal.returns
returns c =
    let same : c.deref-3.result.now ≡ given c.in_ok-said.said.items = cc (c.deref-3.ensures.value, c.in_ok-keys.ensures) in
    circle_found (texts_of c.args.records.now) c.in_ok-said.said.items c.deref-3.result.now c.in_ok-found.found c.in_ok-said.ensures same c.in_ok-found.ensures
