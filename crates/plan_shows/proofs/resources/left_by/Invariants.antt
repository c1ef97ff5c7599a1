use Rattle.std.specs.Prelude.{◌≡◌, ◌-◌, sum_by, take}
use Rattle.plan_shows.specs.declared.resources.HolderView.{HolderView}
use Rattle.plan_shows.proofs.resources.left_by.Given as goal

-- what those leave that were passed
abbrev pub invariant-loop-holder : goal.invariant-loop-holder
invariant-loop-holder l = l.left ≡ l.quantity - sum_by (λ (h : HolderView). h.amount) (take l.holder-index l.holders)
