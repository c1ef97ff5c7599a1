use Rattle.std.proofs.Common.{◌≡◌, take}
use Rattle.record_faults.specs.Sayings.{owned}
use Rattle.record_faults.proofs.sayings.owners_given.Given as goal

-- those of the places so far
abbrev pub invariant-loop-one : goal.invariant-loop-one
invariant-loop-one l = l.owners.items ≡ owned (take l.one-index l.said)
