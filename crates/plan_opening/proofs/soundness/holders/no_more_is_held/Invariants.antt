use Rattle.std.specs.FinMap.{entries}
use Rattle.plan_opening.specs.Laws.{IsHeldWithin}
use Rattle.plan_opening.proofs.EachRow.{IsSoBefore}
use Rattle.plan_opening.proofs.soundness.holders.no_more_is_held.Given as goal

-- no more is held of the resources that are gone through than there is
abbrev pub invariant-loop-resource : goal.invariant-loop-resource
invariant-loop-resource l = IsSoBefore (entries l.contents.resources) (IsHeldWithin l.contents) l.resource-index
