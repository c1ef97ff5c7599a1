use Rattle.std.specs.Prelude.{◌≡◌, ◌-◌, take}
use Rattle.special_resources.proofs.Amounts.{taken_from}
use Rattle.plan_reasons.proofs.scarce.left_by.Given as goal

-- what those leave that were passed
abbrev pub invariant-loop-holder : goal.invariant-loop-holder
invariant-loop-holder l = l.left ≡ l.quantity - taken_from l.key (take l.holder-index l.holders)
