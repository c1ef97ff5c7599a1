use Rattle.std.proofs.Common.{◌≡◌, drop}
use Rattle.plan_basics.proofs.CellOrders.{cells_cmp}
use Rattle.plan_basics.proofs.text.order_from.Given as goal

-- the cells before it are the same
abbrev pub invariant-loop-i : goal.invariant-loop-i
invariant-loop-i l = cells_cmp (drop l.place l.a) (drop l.place l.b) ≡ cells_cmp (drop l.i l.a) (drop l.i l.b)
