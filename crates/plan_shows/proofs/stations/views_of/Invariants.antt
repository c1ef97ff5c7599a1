use Rattle.std.proofs.Common.{take}
use Rattle.std.specs.List.{AllZip}
use Rattle.plan_shows.specs.Stations.{IsWorkstationView}
use Rattle.plan_shows.proofs.stations.views_of.Given as goal

-- the workstations that were passed are shown
abbrev pub invariant-loop-place : goal.invariant-loop-place
invariant-loop-place l = AllZip (IsWorkstationView l.plan.plan) (take l.place l.workstations) l.views.items
