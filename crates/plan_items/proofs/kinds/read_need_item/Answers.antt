use Rattle.plan_items.specs.Items.{fields_of}
use Rattle.plan_items.proofs.KindLaws.{ten_fields, made_need}
use Rattle.plan_items.proofs.kinds.read_need_item.Goals as goal

pub returns : goal.returns
returns c = made_need (fields_of c.args.fields.now) (ten_fields c.args.fields.now c.type_inv.fields) c.requires c.in_ok-operation.operation c.in_ok-need.need
    (rw (c.field.ensures, c.field-2.ensures, c.field-3.ensures) at c.in_ok-operation.ensures)
    (rw (c.field-4.ensures, c.field-5.ensures, c.field-6.ensures, c.field-7.ensures) at c.in_ok-need.ensures)
    (c.are_empty_from.ensures.0 c.if-not-are_empty_from.false)
