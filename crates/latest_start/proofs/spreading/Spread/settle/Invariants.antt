use Rattle.std.proofs.Common.{[], ℕ}
use Rattle.latest_start.specs.Spread.{IsSpreadTo, steps_left}
use Rattle.latest_start.proofs.spreading.Spread.settle.Given as goal

-- the nodes that wait have at most this rank
abbrev pub invariant-loop-node : goal.invariant-loop-node
invariant-loop-node l = record {
  top : ℕ;
  spread : IsSpreadTo l.graph l.items l.old l.self [] top;
}

abbrev pub decreases-loop-node : goal.decreases-loop-node
decreases-loop-node l = steps_left l.self
