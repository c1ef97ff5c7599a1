use Rattle.std.proofs.Common.{ℕ, drop, Contains}
use Rattle.operation_graph.specs.Graphs.{IsSet}
use Rattle.graph_paths.proofs.ancestors.sifting.is_fed.Given as goal

-- a predecessor whose flag is set is among those that are left
abbrev pub invariant-loop-pred : goal.invariant-loop-pred
invariant-loop-pred l = (p : ℕ) → Contains l.pred-items p → IsSet l.flags p → Contains (drop l.pred-index l.pred-items) p
