use Rattle.std.proofs.Common.{sym, []}
use Rattle.std.proofs.lemmas.List.{append-nil}
use Rattle.std.proofs.lemmas.Result.{on_ok_weaker}
use Rattle.std.specs.List.{filter_map}
use Rattle.plan_rows.proofs.NeedRows.{amount_name, amounts_made, new_rows}
use Rattle.plan_rows.proofs.OneMore.{one_more_table}
use Rattle.plan_rows.proofs.needs.push_amounts.Goals as goal
use Rattle.plan_rows.specs.Rows.{amount_row}

pub returns : goal.returns
returns c = λ P Q keeps new so_far.
    let needs = c.args.needs.now in
    let old = c.args.changes.now in
    let made = record old { rows = c.push_written.new.rows } in
    on_ok_weaker c.push_written.result
    (λ rows. one_more_table 9 P Q old made (filter_map amount_row needs) [] rows (sym (append-nil old.gone.items)) so_far (new_rows 9 amount_name amount_row amounts_made P Q keeps needs new))
    (c.push_written.ensures amount_row (λ x r has is. is))
