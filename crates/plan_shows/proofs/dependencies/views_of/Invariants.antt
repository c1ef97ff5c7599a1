use Rattle.std.proofs.Common.{take}
use Rattle.std.specs.List.{AllZip}
use Rattle.plan_shows.specs.Dependencies.{IsDependencyView}
use Rattle.plan_shows.proofs.dependencies.views_of.Given as goal

-- the pairs that were passed are shown
abbrev pub invariant-loop-pair : goal.invariant-loop-pair
invariant-loop-pair l = AllZip (IsDependencyView l.loaded) (take l.pair-index l.pairs) l.views.items
