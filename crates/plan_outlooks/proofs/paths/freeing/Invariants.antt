use Rattle.plan_outlooks.specs.Forecasts.{Forecast}
use Rattle.plan_outlooks.specs.Lent.{IsLent}
use Rattle.plan_outlooks.specs.Paths.{IsFreeing}
use Rattle.plan_outlooks.proofs.FirstOnes.{NoneBefore}
use Rattle.plan_outlooks.proofs.paths.freeing.Given as goal

-- none that was passed frees what lacks
abbrev pub invariant-loop-other : goal.invariant-loop-other
invariant-loop-other l = (F : Forecast) → IsLent F l.refs → NoneBefore F (IsFreeing F l.moment l.lack) l.other
