use Rattle.plan_items.specs.Items.{fields_of}
use Rattle.plan_items.proofs.KindLaws.{ten_fields, made_dependency, no_successor}
use Rattle.plan_items.proofs.kinds.read_dependency.Goals as goal

pub returns-in_err-successor : goal.returns-in_err-successor
returns-in_err-successor c = rw c.from_residual-in_err-successor.ensures
    (no_successor (fields_of c.args.fields.now) c.requires (rw (c.field-4.ensures, c.field-5.ensures, c.field-6.ensures) at c.in_err-successor.ensures))

pub returns : goal.returns
returns c = made_dependency (fields_of c.args.fields.now) (ten_fields c.args.fields.now c.type_inv.fields) c.requires c.in_ok-predecessor.predecessor c.in_ok-successor.successor
    (rw (c.field.ensures, c.field-2.ensures, c.field-3.ensures) at c.in_ok-predecessor.ensures)
    (rw (c.field-4.ensures, c.field-5.ensures, c.field-6.ensures) at c.in_ok-successor.ensures)
    (c.are_empty_from.ensures.0 c.if-not-are_empty_from.false)
