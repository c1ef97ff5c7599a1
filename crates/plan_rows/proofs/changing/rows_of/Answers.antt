use Rattle.std.proofs.Common.{arith}
use Rattle.plan_rows.proofs.AllTables.{all_new}
use Rattle.plan_rows.proofs.Sources.{nothing_kept}
use Rattle.plan_rows.proofs.changing.rows_of.Goals as goal
use Rattle.plan_rows.specs.Sources.{source_with}

pub changes_between-requires-clause-kept : goal.changes_between-requires-clause-kept
changes_between-requires-clause-kept c = nothing_kept c.args.records.now.contents

pub returns-clause-rows : goal.returns-clause-rows
returns-clause-rows c =
    all_new c.args.clock c.args.clock (source_with c.args.records.now.contents c.args.columns) c.in_ok-changes_between.field-0.rows.items c.in_ok-changes_between.field-0.gone.items c.in_ok-changes_between.ensures.changes

pub returns-clause-most : goal.returns-clause-most
returns-clause-most c = omega (arith, c.in_ok-changes_between.ensures.most)
