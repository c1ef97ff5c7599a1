use Rattle.record_faults.specs.Groups.{IsLastIfAny, grouped}
use Rattle.extension_faults.proofs.limits.last_of.Given as goal

-- of the records so far it is the last
abbrev pub invariant-loop-place : goal.invariant-loop-place
invariant-loop-place l = IsLastIfAny (grouped l.said) l.place l.group l.last
