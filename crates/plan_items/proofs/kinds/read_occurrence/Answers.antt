use Rattle.plan_items.specs.Items.{fields_of}
use Rattle.plan_items.proofs.KindLaws.{ten_fields, made_occurrence, no_last}
use Rattle.plan_items.proofs.kinds.read_occurrence.Goals as goal

pub returns-in_err-deadline : goal.returns-in_err-deadline
returns-in_err-deadline c = rw c.from_residual-in_err-deadline.ensures
    (no_last (fields_of c.args.fields.now) c.requires (rw c.field-4.ensures at c.in_err-deadline.ensures))

pub returns : goal.returns
returns c = made_occurrence (fields_of c.args.fields.now) (ten_fields c.args.fields.now c.type_inv.fields) c.requires c.in_ok-key.key c.in_ok-priority.priority c.in_ok-deadline.deadline
    (rw (c.field.ensures, c.field-2.ensures) at c.in_ok-key.ensures)
    (rw c.field-3.ensures at c.in_ok-priority.ensures)
    (rw c.field-4.ensures at c.in_ok-deadline.ensures)
    (c.are_empty_from.ensures.0 c.if-not-are_empty_from.false)
