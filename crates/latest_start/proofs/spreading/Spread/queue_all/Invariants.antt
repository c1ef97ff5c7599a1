use Rattle.std.proofs.Common.{◌≤◌, ℕ, ℤ, List, drop}
use Rattle.latest_start.specs.declared.Item.{Item}
use Rattle.latest_start.specs.Spread.{HasSize, IsSpreadTo, steps_left}
use Rattle.latest_start.proofs.spreading.Spread.queue_all.Given as goal

-- the nodes from the index on are still to be queued
abbrev pub invariant-loop-node : goal.invariant-loop-node
invariant-loop-node l = record {
  size : HasSize l.graph.nodes l.self;
  step : (items : List Item) (old : List ℤ) (top : ℕ) → IsSpreadTo l.graph items old l.fn.self l.nodes top → IsSpreadTo l.graph items old l.self (drop l.node-index l.nodes) top;
  nearer : steps_left l.self ≤ steps_left l.fn.self;
}
