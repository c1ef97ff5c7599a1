use Rattle.plan_opening.proofs.FirstRow.{several_told, sole_told}
use Rattle.plan_opening.proofs.first.are_first.Goals as goal

pub returns-then-rows-eq1 : goal.returns-then-rows-eq1
returns-then-rows-eq1 c = sole_told c.args.rows.now c.index-rows-0.result c.is_first.result c.if-rows-eq1.true c.index-rows-0.is c.is_first.ensures

pub returns-else-rows-eq1 : goal.returns-else-rows-eq1
returns-else-rows-eq1 c = several_told c.args.rows.now c.if-rows-eq1.false
