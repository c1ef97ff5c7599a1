use Rattle.plan_rows.proofs.KeyedRows.{rows_alike}
use Rattle.plan_rows.proofs.all_rows.AllRowsTwoTables.is_alike.Goals as goal

pub returns : goal.returns
returns c =
    let t = c.args.self.now in
    rows_alike t.before.now t.after.now c.args.old c.args.new c.row_at.result.now c.row_at-2.result.now c.eq.result c.row_at.ensures c.row_at-2.ensures c.eq.ensures
