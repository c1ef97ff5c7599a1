use Rattle.std.proofs.Common.{◌≡◌, take}
use Rattle.extension_faults.specs.Whole.{ends_of}
use Rattle.extension_faults.proofs.returns.ends_of.Given as goal

-- the ends of the pairs so far
abbrev pub invariant-loop-pair : goal.invariant-loop-pair
invariant-loop-pair l = l.ends.items ≡ ends_of (take l.pair-index l.pairs)
