use Rattle.forecasting.specs.InMemory.{NoTimes}
use Rattle.forecasting.proofs.beginning.no_times.Given as goal

abbrev pub invariant-loop : goal.invariant-loop
invariant-loop l = NoTimes l.counter l.times.items
