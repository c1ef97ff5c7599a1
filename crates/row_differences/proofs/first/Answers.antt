use Rattle.std.proofs.Common.{◌<◌, arith, length}
use Rattle.row_differences.proofs.Merging.{first_after, first_before, first_by_end, one_key}
use Rattle.row_differences.proofs.first.Given.{Over}
use Rattle.row_differences.proofs.first.Goals as goal
use Rattle.row_differences.proofs.first.Goals.{After-order}

-- no row of before is left
pub returns-then-old-rows_before-clause-greater : goal.returns-then-old-rows_before-clause-greater
returns-then-old-rows_before-clause-greater g c =
    let end = c.if-old-rows_before.true in
    let all = c.rows_before.ensures in
    let left = c.requires.left in
    λ is. first_by_end g.met.T.Key.Ord.total (g.T.TwoTables.after c.args.tables.now) (g.T.TwoTables.before c.args.tables.now) c.args.new c.args.old (omega (arith, end, all)) (omega (arith, end, all, left))

-- no row of after is left
pub returns-then-new-rows_after-clause-less : goal.returns-then-new-rows_after-clause-less
returns-then-new-rows_after-clause-less g c =
    let end = c.if-new-rows_after.true in
    let all = c.rows_after.ensures in
    let left = c.requires.left in
    λ is. first_by_end g.met.T.Key.Ord.total (g.T.TwoTables.before c.args.tables.now) (g.T.TwoTables.after c.args.tables.now) c.args.old c.args.new (omega (arith, end, all)) (omega (arith, end, all, left))

-- a row of each is left
within_before : (g : Over) (c : After-order g) → c.args.old < length (g.T.TwoTables.before c.args.tables.now)
within_before g c = let r = c.requires.old in let s = c.if-old-rows_before.false in let t = c.rows_before.ensures in omega (arith, r, s, t)

within_after : (g : Over) (c : After-order g) → c.args.new < length (g.T.TwoTables.after c.args.tables.now)
within_after g c = let r = c.requires.new in let s = c.if-new-rows_after.false in let t = c.rows_after.ensures in omega (arith, r, s, t)

pub returns-else-new-rows_after-clause-less : goal.returns-else-new-rows_after-clause-less
returns-else-new-rows_after-clause-less g c =
    first_before g.met.T.Key.Ord.total (g.T.TwoTables.before c.args.tables.now) (g.T.TwoTables.after c.args.tables.now) c.requires.before c.requires.after c.args.old c.args.new (within_before g c) (within_after g c) c.order.result c.order.ensures

pub returns-else-new-rows_after-clause-equal : goal.returns-else-new-rows_after-clause-equal
returns-else-new-rows_after-clause-equal g c =
    one_key g.met.T.Key.Ord.total (g.T.TwoTables.before c.args.tables.now) (g.T.TwoTables.after c.args.tables.now) c.requires.before c.requires.after c.args.old c.args.new (within_before g c) (within_after g c) c.order.result c.order.ensures c.requires.exact

pub returns-else-new-rows_after-clause-greater : goal.returns-else-new-rows_after-clause-greater
returns-else-new-rows_after-clause-greater g c =
    first_after g.met.T.Key.Ord.total (g.T.TwoTables.before c.args.tables.now) (g.T.TwoTables.after c.args.tables.now) c.requires.before c.requires.after c.args.old c.args.new (within_before g c) (within_after g c) c.order.result c.order.ensures
