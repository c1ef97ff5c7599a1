use Rattle.std.proofs.Common.{◌≡◌, length}
use Rattle.std.specs.FinMap.{entries}
use Rattle.forecasting.specs.Known.{since_in}
use Rattle.plan_outlooks.proofs.TakenOnes.{AreTakenBefore}
use Rattle.plan_outlooks.proofs.overruns.taken_of.Given as goal

abbrev pub invariant-loop-place : goal.invariant-loop-place
invariant-loop-place l = record {
  size : length l.taken.items ≡ length (entries l.fn.loaded.operations);
  so : AreTakenBefore l.fn.loaded (since_in l.fn.known) l.fn.at l.place l.taken.items;
}
