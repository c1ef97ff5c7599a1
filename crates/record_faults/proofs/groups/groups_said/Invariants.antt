use Rattle.std.proofs.Common.{◌≡◌, take}
use Rattle.record_faults.specs.Groups.{grouped}
use Rattle.record_faults.proofs.groups.groups_said.Given as goal

-- those of the places so far
abbrev pub invariant-loop-one : goal.invariant-loop-one
invariant-loop-one l = l.groups.items ≡ grouped (take l.one-index l.said)
