use Rattle.std.proofs.Common.{rules, ◌<◌, sym, ap, ◌∙◌, refl, arith, true≢false}
use Rattle.std.proofs.lemmas.Option.{slice_get_within}
use Rattle.row_differences.proofs.Merging.{begun, passed_gone, passed_new, passed_alike, passed_changed, merged}
use Rattle.row_differences.proofs.differences.Goals as goal
use Rattle.row_differences.proofs.differences.Goals.{then-not-alike+in_ok-push-in-Equal, else-not-alike}

pub loop-old-init : goal.loop-old-init
loop-old-init g c =
    rw c.new-changed.ensures.items (rw c.new-gone.ensures.items
    (begun g.met.T.Key.Ord.total (g.T.TwoTables.before c.args.tables.now) (g.T.TwoTables.after c.args.tables.now) (g.T.TwoTables.IsAlike c.args.tables.now) c.requires.before c.requires.after))

pub overflow_add-old : goal.overflow_add-old
overflow_add-old g c =
    let next = c.in-Less.ensures.less refl in
    let within = slice_get_within (g.T.TwoTables.before c.args.tables.now) c.loop-old.old next.0 next.1 in
    let all = c.rows_before-rows_before.ensures in
    let less : c.loop-old.old < c.rows_before-rows_before.result = omega (arith, within, all) in
    search rules

pub loop-old-smaller-in-Less : goal.loop-old-smaller-in-Less
loop-old-smaller-in-Less g c =
    let next = c.in-Less.ensures.less refl in
    let within = slice_get_within (g.T.TwoTables.before c.args.tables.now) c.loop-old.old next.0 next.1 in
    let all = c.rows_before-rows_before.ensures in
    omega (arith, within, all)

pub loop-old-preserved-in-Less : goal.loop-old-preserved-in-Less
loop-old-preserved-in-Less g c =
    rw c.in_ok-push-in-Less.ensures.items
    (passed_gone g.met.T.Key.Ord.total (g.T.TwoTables.before c.args.tables.now) (g.T.TwoTables.after c.args.tables.now) (g.T.TwoTables.IsAlike c.args.tables.now) c.requires.before c.requires.after
    c.loop-old.old c.loop-old.new c.loop-old.changed.items c.loop-old.gone.items c.loop-old.invariant (c.in-Less.ensures.less refl))

pub overflow_add-new : goal.overflow_add-new
overflow_add-new g c =
    let next = c.in-Greater.ensures.greater refl in
    let within = slice_get_within (g.T.TwoTables.after c.args.tables.now) c.loop-old.new next.0 next.1 in
    let all = c.rows_after-rows_after.ensures in
    let less : c.loop-old.new < c.rows_after-rows_after.result = omega (arith, within, all) in
    search rules

pub loop-old-smaller-in-Greater : goal.loop-old-smaller-in-Greater
loop-old-smaller-in-Greater g c =
    let next = c.in-Greater.ensures.greater refl in
    let within = slice_get_within (g.T.TwoTables.after c.args.tables.now) c.loop-old.new next.0 next.1 in
    let all = c.rows_after-rows_after.ensures in
    omega (arith, within, all)

pub loop-old-preserved-in-Greater : goal.loop-old-preserved-in-Greater
loop-old-preserved-in-Greater g c =
    rw c.in_ok-push-in-Greater.ensures.items
    (passed_new g.met.T.Key.Ord.total (g.T.TwoTables.before c.args.tables.now) (g.T.TwoTables.after c.args.tables.now) (g.T.TwoTables.IsAlike c.args.tables.now) c.requires.before c.requires.after
    c.loop-old.old c.loop-old.new c.loop-old.changed.items c.loop-old.gone.items c.loop-old.invariant (c.in-Greater.ensures.greater refl))

pub overflow_add-old-in-Equal : goal.overflow_add-old-in-Equal
overflow_add-old-in-Equal g c =
    let one = c.in-Equal.ensures.equal refl in
    let within = slice_get_within (g.T.TwoTables.before c.args.tables.now) c.loop-old.old one.0 one.1 in
    let all = c.rows_before-rows_before.ensures in
    let less : c.loop-old.old < c.rows_before-rows_before.result = omega (arith, within, all) in
    search rules

pub overflow_add-new-in-Equal : goal.overflow_add-new-in-Equal
overflow_add-new-in-Equal g c =
    let one = c.in-Equal.ensures.equal refl in
    let within = slice_get_within (g.T.TwoTables.after c.args.tables.now) c.loop-old.new one.0 one.2 in
    let all = c.rows_after-rows_after.ensures in
    let less : c.loop-old.new < c.rows_after-rows_after.result = omega (arith, within, all) in
    search rules

pub loop-old-smaller : goal.loop-old-smaller
loop-old-smaller g c =
    let one = c.in-Equal.ensures.equal refl in
    let within = slice_get_within (g.T.TwoTables.before c.args.tables.now) c.loop-old.old one.0 one.1 in
    let all = c.rows_before-rows_before.ensures in
    omega (arith, within, all)

pub loop-old-preserved : goal.loop-old-preserved
loop-old-preserved g c = elim c.if-not-alike.branch [
  | then-not-alike+in_ok-push-in-Equal w ↦
      rw (ap (λ xs. xs.items) w.changed-is ∙ w.in_ok-push-in-Equal.ensures.items)
      (passed_changed g.met.T.Key.Ord.total (g.T.TwoTables.before c.args.tables.now) (g.T.TwoTables.after c.args.tables.now) (g.T.TwoTables.IsAlike c.args.tables.now) c.requires.before c.requires.after
      c.loop-old.old c.loop-old.new c.loop-old.changed.items c.loop-old.gone.items c.loop-old.invariant (c.in-Equal.ensures.equal refl)
      (λ alike. true≢false (sym (c.is_alike-alike.ensures.1 alike) ∙ w.if-not-alike.true)))
  | else-not-alike w ↦
      rw (ap (λ xs. xs.items) w.changed-is)
      (passed_alike g.met.T.Key.Ord.total (g.T.TwoTables.before c.args.tables.now) (g.T.TwoTables.after c.args.tables.now) (g.T.TwoTables.IsAlike c.args.tables.now) c.requires.before c.requires.after
      c.loop-old.old c.loop-old.new c.loop-old.changed.items c.loop-old.gone.items c.loop-old.invariant (c.in-Equal.ensures.equal refl)
      (c.is_alike-alike.ensures.0 w.if-not-alike.false))
]

pub returns : goal.returns
returns g c =
    let all_before = c.rows_before-rows_before.ensures in
    let all_after = c.rows_after-rows_after.ensures in
    let end_before = c.if-old-rows_before.false in
    let end_after = c.if-new-rows_after.false in
    merged g.met.T.Key.Ord.total (g.T.TwoTables.before c.args.tables.now) (g.T.TwoTables.after c.args.tables.now) (g.T.TwoTables.IsAlike c.args.tables.now) c.requires.before c.requires.after
    c.loop-old.old c.loop-old.new c.loop-old.changed.items c.loop-old.gone.items c.loop-old.invariant (omega (arith, all_before, end_before)) (omega (arith, all_after, end_after))
