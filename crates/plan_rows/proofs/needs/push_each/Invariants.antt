use Rattle.plan_rows.proofs.MadeOfEach.{IsMadeOf}
use Rattle.plan_rows.proofs.needs.push_each.Given as goal

-- what is made of the first of them is added
abbrev pub invariant-loop-item : goal.invariant-loop-item
invariant-loop-item g l = IsMadeOf (λ n r. goal.F-post g l.make n r) l.items l.item-index l.fn.rows.items l.rows.items
