use Rattle.std.specs.FinMap.{entries}
use Rattle.plan_opening.specs.Laws.{HasCompatibleHolders}
use Rattle.plan_opening.proofs.EachRow.{IsSoBefore}
use Rattle.plan_opening.proofs.soundness.holders.holders_are_compatible.Given as goal

-- the resources that are gone through have compatible holders
abbrev pub invariant-loop-resource : goal.invariant-loop-resource
invariant-loop-resource l =
    IsSoBefore (entries l.contents.resources) (λ r stock. HasCompatibleHolders l.contents r) l.resource-index
