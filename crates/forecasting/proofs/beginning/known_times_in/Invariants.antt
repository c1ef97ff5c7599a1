use Rattle.std.proofs.Common.{◌≡◌, take}
use Rattle.std.specs.FinMap.{entries}
use Rattle.forecasting.specs.Known.{since_in}
use Rattle.forecasting.specs.InMemory.{times_by}
use Rattle.forecasting.proofs.beginning.known_times_in.Given as goal

abbrev pub invariant-loop-place : goal.invariant-loop-place
invariant-loop-place l = l.times.items ≡ times_by (since_in l.fn.known) (take l.place (entries l.fn.loaded.operations))
