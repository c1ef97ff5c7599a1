use Rattle.std.proofs.Common.{◌≡◌, ◌≤◌, ◌-◌, drop, length}
use Rattle.plan_basics.proofs.CellOrders.{cells_cmp}
use Rattle.plan_basics.proofs.text.cells_order.Given as goal

-- the cells before it are the same
abbrev pub invariant-loop-i : goal.invariant-loop-i
invariant-loop-i l = (l.i ≤ length l.a) × (cells_cmp l.a l.b ≡ cells_cmp (drop l.i l.a) (drop l.i l.b))

abbrev pub decreases-loop-i : goal.decreases-loop-i
decreases-loop-i l = length l.a - l.i
