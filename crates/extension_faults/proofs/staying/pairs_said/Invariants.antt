use Rattle.std.proofs.Common.{◌≡◌, take}
use Rattle.extension_faults.specs.Whole.{pairs_said}
use Rattle.extension_faults.proofs.staying.pairs_said.Given as goal

-- those of the records so far
abbrev pub invariant-loop-place : goal.invariant-loop-place
invariant-loop-place l = l.pairs.items ≡ pairs_said (take l.place l.said)
