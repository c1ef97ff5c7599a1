use Rattle.std.proofs.Common.{refl, arith}
use Rattle.plan_opening.proofs.Metas.{is_there, meta_said, no_meta_more, some_meta}
use Rattle.plan_opening.proofs.restoring.meta.meta_of_rows.Goals as goal

pub returns-in-Some-clause-complete : goal.returns-in-Some-clause-complete
returns-in-Some-clause-complete c = λ P are.
    let there = is_there c.args.rows.now c.loop-row.row-index c.row-item.result c.loop-row-test.true c.row-item.is in
    meta_said P c.args.rows.now are c.row-item.result there c.in-Some.found.0 c.in-Some.found.1 c.in-Some.ensures.found

pub loop-row-preserved : goal.loop-row-preserved
loop-row-preserved c = no_meta_more c.args.rows.now c.loop-row.row-index c.row-item.result c.loop-row-test.true c.row-item.is c.loop-row.invariant (c.in_default.ensures.absent refl)

pub returns-clause-complete : goal.returns-clause-complete
returns-clause-complete c = λ P are. absurd (some_meta P c.args.rows.now are c.loop-row.row-index (omega (arith, c.loop-row-test.false, c.loop-row.auto.row-index-end)) c.loop-row.invariant)
