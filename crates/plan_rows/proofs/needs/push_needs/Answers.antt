use Rattle.std.proofs.Common.{◌∙◌, ◌++◌, sym, ap, [], Some}
use Rattle.std.proofs.lemmas.List.{append-nil}
use Rattle.std.proofs.lemmas.Result.{on_ok_weaker}
use Rattle.std.specs.List.{filter_map}
use Rattle.plan_rows.proofs.NeedRows.{each_need, need_name, needs_made, new_rows}
use Rattle.plan_rows.proofs.OneMore.{one_more_table}
use Rattle.plan_rows.proofs.needs.push_needs.Goals as goal
use Rattle.plan_rows.specs.Rows.{need_row}

pub returns : goal.returns
returns c = λ P Q keeps new so_far.
    let needs = c.args.needs.now in
    let old = c.args.changes.now in
    let made = record old { rows = c.push_each.new.rows } in
    on_ok_weaker c.push_each.result
    (λ rows. one_more_table 7 P Q old made (filter_map (λ x. Some (need_row x)) needs) [] (rows ∙ ap (λ rs. old.rows.items ++ rs) (sym (each_need needs))) (sym (append-nil old.gone.items)) so_far (new_rows 7 need_name (λ x. Some (need_row x)) needs_made P Q keeps needs new))
    (c.push_each.ensures need_row (λ x r has is. is))
