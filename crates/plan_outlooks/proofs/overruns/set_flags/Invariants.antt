use Rattle.std.proofs.Common.{◌≡◌, ◌↔◌, ℕ, length}
use Rattle.plan_model.specs.operation_graph.specs.Graphs.{IsSet}
use Rattle.plan_outlooks.proofs.TakenOnes.{SetBefore}
use Rattle.plan_outlooks.proofs.overruns.set_flags.Given as goal

abbrev pub invariant-loop-place : goal.invariant-loop-place
invariant-loop-place l = record {
  size : length l.flags.items ≡ length l.fn.flags.items;
  so : (i : ℕ) → IsSet l.flags.items i ↔ SetBefore l.fn.flags.items l.places l.place-index i;
}
