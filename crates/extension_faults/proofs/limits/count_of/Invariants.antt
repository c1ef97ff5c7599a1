use Rattle.std.proofs.Common.{◌≡◌, take}
use Rattle.record_faults.specs.Groups.{count_of, grouped}
use Rattle.extension_faults.proofs.limits.count_of.Given as goal

-- how many of the records so far are of it
abbrev pub invariant-loop-place : goal.invariant-loop-place
invariant-loop-place l = l.count ≡ count_of l.group (grouped (take l.place l.said))
