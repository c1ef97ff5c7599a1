use Rattle.std.proofs.Common.{sym, subst, map, Contains}
use Rattle.std.proofs.lemmas.Result.{on_ok_weaker}
use Rattle.plan_rows.proofs.OneMore.{name_at, one_more_table, table_changes}
use Rattle.plan_rows.proofs.tables.push_changes.Goals as goal

pub push_made-requires : goal.push_made-requires
push_made-requires g c = λ i has. ((c.in_ok-found.ensures.has_changed i).0 (subst (λ xs. Contains xs i) c.deref.ensures.value has)).0

pub push_made-requires-2 : goal.push_made-requires-2
push_made-requires-2 g c = λ i has. ((c.in_ok-found.ensures.has_gone i).0 (subst (λ xs. Contains xs i) c.deref-2.ensures.value has)).0

pub returns : goal.returns
returns g c = λ n P Q was is so_far.
    let before = g.T.TwoTables.before c.args.tables.now in
    let after = g.T.TwoTables.after c.args.tables.now in
    let news = g.T.PlanTable.news c.args.tables.now in
    let (more, at_changed, rows) = c.in_ok-push_made.ensures news (λ i r has e. e) in
    on_ok_weaker c.push_made-2.result
    (λ (away, at_gone, gone).
    one_more_table n P Q c.args.changes.now (record { rows = c.push_made.new.rows; gone = c.push_made-2.new.rows }) more away rows gone so_far
    (table_changes g.T.Key.Ord.cmp g.T.PlanTable.name g.met.T.PlanTable.in_order g.met.T.PlanTable.exact before after c.requires.before c.requires.after (g.T.PlanTable.olds c.args.tables.now) news (g.T.TwoTables.IsAlike c.args.tables.now) (g.met.T.PlanTable.alike c.args.tables.now) n P Q was is
    c.in_ok-found.found.changed.items c.in_ok-found.found.gone.items more away c.in_ok-found.ensures (rw (sym c.deref.ensures.value) at_changed) (rw (sym c.deref-2.ensures.value) at_gone)))
    (c.push_made-2.ensures (map g.T.PlanTable.name before) (λ i k has is. name_at g.T.PlanTable.name before i k (((c.in_ok-found.ensures.has_gone i).0 (subst (λ xs. Contains xs i) c.deref-2.ensures.value has)).0) is))
