use Rattle.std.proofs.Common.{take}
use Rattle.std.specs.List.{AllZip}
use Rattle.plan_shows.specs.Resources.{IsResourceView}
use Rattle.plan_shows.proofs.resources.views_with.Given as goal

-- the resources that were passed are shown
abbrev pub invariant-loop-resource : goal.invariant-loop-resource
invariant-loop-resource l = AllZip (IsResourceView l.loaded) (take l.resource-index l.resource-items) l.views.items
