use Rattle.std.proofs.Common.{sym, ap, ◌∙◌, None}
use Rattle.record_faults.specs.Faults.{interval_said}
use Rattle.record_faults.proofs.Overlapping.{no_interval, read_by}
use Rattle.record_faults.proofs.overlaps.overlapping.Goals as goal

pub returns-in_default : goal.returns-in_default
returns-in_default c =
    let read = read_by c.args.said.now c.args.place c.index-said-place.result None c.requires.place c.index-said-place.is in
    no_interval c.args.said.now c.args.place (ap interval_said (sym read) ∙ sym c.interval_of.ensures ∙ c.in_default.is)

pub overlap_before-requires-clause-interval : goal.overlap_before-requires-clause-interval
overlap_before-requires-clause-interval c =
    let read = read_by c.args.said.now c.args.place c.index-said-place.result None c.requires.place c.index-said-place.is in
    ap interval_said (sym read) ∙ sym c.interval_of.ensures ∙ c.in-Some.is
