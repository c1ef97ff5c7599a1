use Rattle.std.proofs.Common.{◌≡◌, take}
use Rattle.record_faults.specs.Sayings.{given}
use Rattle.record_faults.proofs.sayings.keys_given.Given as goal

-- those of the places so far
abbrev pub invariant-loop-one : goal.invariant-loop-one
invariant-loop-one l = l.keys.items ≡ given (take l.one-index l.said)
