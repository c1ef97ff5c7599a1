use Rattle.std.proofs.Common.{take}
use Rattle.std.specs.List.{AllZip}
use Rattle.plan_shows.specs.Resources.{IsShown}
use Rattle.plan_shows.proofs.resources.holder_views.Given as goal

-- the holders that were passed are shown
abbrev pub invariant-loop-holder : goal.invariant-loop-holder
invariant-loop-holder l = AllZip (IsShown l.loaded l.quantity) (take l.holder-index l.holders) l.views.items
