use Rattle.std.proofs.Common.{ℕ, drop}
use Rattle.operation_graph.specs.Adjacency.{rows_of}
use Rattle.operation_graph.specs.Walks.{IsWalkTo}
use Rattle.operation_graph.proofs.Reaching.{IsVisit}
use Rattle.operation_graph.proofs.walk.Walk.visit.Given as goal

abbrev pub invariant-loop-next : goal.invariant-loop-next
invariant-loop-next l = (from : ℕ) → IsWalkTo (rows_of l.succs) l.live from l.fn.self l.place → IsVisit (rows_of l.succs) l.live from l.self.seen.items l.self.found.items l.place
    (drop l.next-index l.next-items)
