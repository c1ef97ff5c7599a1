use Rattle.std.proofs.Common.{◌∙◌, sym, ap, slice_index_or, false, option_map, Some}
use Rattle.std.proofs.lemmas.Option.{same_Some, slice_get-get_or}
use Rattle.derived_figures.specs.plan_status.specs.declared.standings.Standing.{Standing}
use Rattle.plan_rows.proofs.operations.have_one_number.Goals as goal

pub returns : goal.returns
returns c =
    let none : Standing = record { preds = record { live = false; satisfied = false; nonreporting = false }; waiting = 0 } in
    let x = slice_index_or c.args.before.now c.args.old none in
    let y = slice_index_or c.args.after.now c.args.new none in
    let one = ap (option_map (λ (s : Standing). s.waiting)) (slice_get-get_or c.args.before.now c.args.old none c.requires.old) in
    let other = ap (option_map (λ (s : Standing). s.waiting)) (slice_get-get_or c.args.after.now c.args.new none c.requires.new) in
    (λ t. one ∙ ap Some (c.is_one_number.ensures.0 t) ∙ sym other, λ e. c.is_one_number.ensures.1 (same_Some x.waiting y.waiting (sym one ∙ e ∙ other)))
