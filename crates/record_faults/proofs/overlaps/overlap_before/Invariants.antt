use Rattle.record_faults.proofs.Overlapping.{IsLeft, places_to}
use Rattle.record_faults.proofs.overlaps.overlap_before.Given as goal

-- only the intervals of the workstation up to this one may overlap that of the place
abbrev pub invariant-loop-next : goal.invariant-loop-next
invariant-loop-next l = IsLeft l.said l.place l.interval.0 l.next

abbrev pub decreases-loop-next : goal.decreases-loop-next
decreases-loop-next l = places_to l.next
