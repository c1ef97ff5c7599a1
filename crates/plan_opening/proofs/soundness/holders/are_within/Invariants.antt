use Rattle.std.proofs.Common.{◌≡◌, ◌+◌, take}
use Rattle.plan_opening.proofs.HeldAmounts.{held_of}
use Rattle.plan_opening.proofs.soundness.holders.are_within.Given as goal

-- what is left, and what those hold that were passed
abbrev pub invariant-loop-holder : goal.invariant-loop-holder
invariant-loop-holder l = held_of (take l.holder-index l.holders) + l.left ≡ l.quantity
