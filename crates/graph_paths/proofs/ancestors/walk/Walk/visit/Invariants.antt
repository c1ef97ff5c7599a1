use Rattle.std.proofs.Common.{ℕ, drop}
use Rattle.operation_graph.proofs.Reaching.{IsVisit}
use Rattle.graph_paths.specs.Walking.{IsWalkBack, predecessor_rows}
use Rattle.graph_paths.proofs.ancestors.walk.Walk.visit.Given as goal

abbrev pub invariant-loop-pred : goal.invariant-loop-pred
invariant-loop-pred l = (from : ℕ) → IsWalkBack l.graph l.flags from l.fn.self l.place → IsVisit (predecessor_rows l.graph) l.flags from l.self.seen.items l.self.found.items l.place
    (drop l.pred-index l.pred-items)
