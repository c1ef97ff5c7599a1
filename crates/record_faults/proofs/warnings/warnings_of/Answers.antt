use Rattle.record_faults.specs.Sayings.{texts_of}
use Rattle.record_faults.proofs.Warned.{all_warned}
use Rattle.record_faults.proofs.warnings.warnings_of.Goals as goal

pub returns : goal.returns
returns c =
    let texts = texts_of c.args.records.now in
    all_warned texts c.in_ok-said.said.items c.in_ok-said.ensures c.in_ok-openings.openings.said.items c.in_ok-openings.ensures.said c.in_ok-warnings.warnings.items c.in_ok-warnings.ensures
