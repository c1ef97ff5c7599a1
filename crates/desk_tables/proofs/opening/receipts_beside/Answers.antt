use Rattle.desk_tables.proofs.Opened.{no_row_by_test, none_before_load, none_stand, rows_by_test}
use Rattle.desk_tables.proofs.opening.receipts_beside.Goals as goal

pub returns-then-is_loaded : goal.returns-then-is_loaded
returns-then-is_loaded c = rw c.if-is_loaded.true c.receipts_of.ensures

pub returns-then-is_empty : goal.returns-then-is_empty
returns-then-is_empty c = none_stand c.args.is_loaded c.in_ok-new.field-0 c.args.rows.now c.in_ok-new.ensures (no_row_by_test c.args.rows.now c.if-is_empty.ensures)

pub returns : goal.returns
returns c = none_before_load c.args.is_loaded c.args.rows.now c.if-is_loaded.false (rows_by_test c.args.rows.now c.if-is_empty.ensures)
