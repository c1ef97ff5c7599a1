use Rattle.plan_basics.specs.declared.keys.OpKey.{OpKey}
use Rattle.plan_outlooks.specs.Forecasts.{Forecast}
use Rattle.plan_outlooks.specs.Lent.{IsLent, IsOfRow}
use Rattle.plan_outlooks.specs.Paths.{IsAwaited}
use Rattle.plan_outlooks.proofs.FirstOnes.{AreFirst, IsLeastOf}
use Rattle.plan_outlooks.proofs.paths.awaited.Given as goal

-- the least of those that were passed
abbrev pub invariant-loop-other : goal.invariant-loop-other
invariant-loop-other l = (F : Forecast) (o : OpKey) → IsLent F l.refs → IsOfRow F l.place o → IsLeastOf F (IsAwaited F o l.moment) (AreFirst l.other-items l.other-index) l.first
