use Rattle.record_faults.proofs.Warned.{of_place}
use Rattle.record_faults.proofs.warnings.warn_of_place.Goals as goal

pub returns : goal.returns
returns c = λ w.
    of_place c.args.openings.now.said.items c.args.place w (c.in_ok-warn.ensures w) c.never_opens.ensures (c.in_ok-warn-2.ensures w) c.is_beyond_intervals-beyond.ensures (c.in_ok-warn-3.ensures w) c.is_too_late.ensures
