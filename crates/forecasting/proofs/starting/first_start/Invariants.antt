use Rattle.plan_basics.specs.declared.Attr.TheVariants.{StartAndCompletion}
use Rattle.plan_checks.proofs.Searching.{NoneBefore}
use Rattle.plan_forecast.specs.Ahead.{MayBegin}
use Rattle.forecasting.proofs.starting.first_start.Given as goal

abbrev pub invariant-loop-entry : goal.invariant-loop-entry
invariant-loop-entry l = NoneBefore l.entries (λ e. MayBegin StartAndCompletion l.fn.loaded e.key.op l.fn.at) l.entry-index
