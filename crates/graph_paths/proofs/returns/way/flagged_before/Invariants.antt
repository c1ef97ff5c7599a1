use Rattle.std.proofs.Common.{ℕ, drop, Contains}
use Rattle.operation_graph.specs.Graphs.{IsSet}
use Rattle.graph_paths.proofs.returns.way.flagged_before.Given as goal

-- a predecessor whose flag is set is among those that are left
abbrev pub invariant-loop-before : goal.invariant-loop-before
invariant-loop-before l = (p : ℕ) → Contains l.before-items p → IsSet l.flags p → Contains (drop l.before-index l.before-items) p
