use Rattle.std.proofs.Common.{take}
use Rattle.std.specs.List.{AllZip}
use Rattle.plan_shows.specs.Trackers.{IsTrackerView}
use Rattle.plan_shows.proofs.trackers.tracker_views.Given as goal

-- the receipts that were passed are shown
abbrev pub invariant-loop-row : goal.invariant-loop-row
invariant-loop-row l = AllZip IsTrackerView (take l.row-index l.row-items) l.views.items
