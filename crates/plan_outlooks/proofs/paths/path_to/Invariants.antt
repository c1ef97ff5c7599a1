use Rattle.plan_basics.specs.declared.keys.OpKey.{OpKey}
use Rattle.plan_outlooks.specs.Forecasts.{Forecast}
use Rattle.plan_outlooks.specs.Lent.{IsLent, IsOfRow}
use Rattle.plan_outlooks.specs.Paths.{EndsAt}
use Rattle.plan_outlooks.proofs.GoingBack.{PathUpTo}
use Rattle.plan_outlooks.proofs.paths.path_to.Given as goal

-- the path so far
abbrev pub invariant-loop : goal.invariant-loop
invariant-loop l = (F : Forecast) (o : OpKey) → IsLent F l.refs → IsOfRow F l.last o → EndsAt F l.fn.ending o → PathUpTo F l.late o l.counter l.path.items l.next l.until
