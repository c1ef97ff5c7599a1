use Rattle.plan_items.proofs.EmptyFields.{empty_from, all_empty}
use Rattle.plan_items.proofs.fields.are_empty_from.Goals as goal

pub returns : goal.returns
returns c = (λ e. empty_from c.args.fields.now c.args.place c.type_inv.fields (rw c.as_slice-fields.ensures at (c.are_empty.ensures.0 e)), λ e. c.are_empty.ensures.1 (rw c.as_slice-fields.ensures (all_empty c.args.fields.now c.args.place e)))
