use Rattle.std.proofs.Common.{◌∙◌, sym, ap, slice_index_or, Some}
use Rattle.std.proofs.lemmas.Option.{same_Some, slice_get-get_or}
use Rattle.plan_rows.proofs.operations.have_one_status.Goals as goal
use Rattle.status_rules.specs.declared.Status.TheVariants.{Started}

pub returns : goal.returns
returns c =
    let x = slice_index_or c.args.before.now c.args.old Started in
    let y = slice_index_or c.args.after.now c.args.new Started in
    let one = slice_get-get_or c.args.before.now c.args.old Started c.requires.old in
    let other = slice_get-get_or c.args.after.now c.args.new Started c.requires.new in
    (λ t. one ∙ ap Some (c.is_one_status.ensures.0 t) ∙ sym other, λ e. c.is_one_status.ensures.1 (same_Some x y (sym one ∙ e ∙ other)))
