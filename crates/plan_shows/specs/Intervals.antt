-- The open intervals of a workstation.
use Rattle.std.specs.Prelude.{List}
use Rattle.std.specs.FinMap.{values}
use Rattle.plan_basics.specs.Intervals.{OpenInterval}
use Rattle.workstations.specs.Workstations.{Workstation}

-- all of them, by first minute
abbrev pub intervals_of : Workstation → List OpenInterval
intervals_of ws = values ws.intervals
