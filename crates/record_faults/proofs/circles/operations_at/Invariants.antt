use Rattle.std.proofs.Common.{take}
use Rattle.std.specs.List.{AllZip}
use Rattle.record_faults.specs.Circles.{StandsAt}
use Rattle.record_faults.proofs.circles.operations_at.Given as goal

-- those of the places so far
abbrev pub invariant-loop-number : goal.invariant-loop-number
invariant-loop-number l = AllZip (StandsAt l.keys) (take l.number l.places) l.operations.items
