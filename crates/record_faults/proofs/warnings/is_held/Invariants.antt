use Rattle.record_faults.proofs.Overlapping.{places_to}
use Rattle.record_faults.proofs.Warned.{IsLeftOf}
use Rattle.record_faults.proofs.warnings.is_held.Given as goal

-- only the workstation's intervals up to this one may hold the operation
abbrev pub invariant-loop-next : goal.invariant-loop-next
invariant-loop-next l = IsLeftOf l.openings.said.items l.operation l.next

abbrev pub decreases-loop-next : goal.decreases-loop-next
decreases-loop-next l = places_to l.next
