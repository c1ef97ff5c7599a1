use Rattle.record_faults.specs.Sayings.{texts_of}
use Rattle.text_faults.proofs.Reading.{circle_found}
use Rattle.text_faults.proofs.faults.circle_told.Goals as goal

pub returns-clause-told : goal.returns-clause-told
returns-clause-told c = circle_found (texts_of c.args.records.now) c.args.faults.now c.in_ok-circle.circle c.requires.faults c.requires.none c.in_ok-circle.ensures
