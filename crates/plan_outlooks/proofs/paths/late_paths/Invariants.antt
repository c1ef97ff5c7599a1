use Rattle.std.proofs.Common.{take}
use Rattle.plan_outlooks.specs.Forecasts.{Forecast}
use Rattle.plan_outlooks.specs.Lent.{IsLent}
use Rattle.plan_outlooks.specs.Occurrences.{AreOccurrenceOutlooks}
use Rattle.plan_outlooks.specs.Paths.{AreLatePaths}
use Rattle.plan_outlooks.proofs.paths.late_paths.Given as goal

-- the paths of those that were passed
abbrev pub invariant-loop-late : goal.invariant-loop-late
invariant-loop-late l = (F : Forecast) → IsLent F l.refs → AreOccurrenceOutlooks F l.occurrences → AreLatePaths F (take l.late-index l.occurrences) l.paths.items
