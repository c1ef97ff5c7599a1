use Rattle.std.proofs.Common.{refl, sym, ◌∙◌}
use Rattle.plan_items.specs.Items.{fields_of}
use Rattle.plan_items.proofs.KindLaws.{ten_fields, made_resource, no_quantity}
use Rattle.plan_items.proofs.kinds.read_resource.Goals as goal

pub returns-in_err-quantity : goal.returns-in_err-quantity
returns-in_err-quantity c = rw c.from_residual-in_err-quantity.ensures
    (no_quantity (fields_of c.args.fields.now) c.requires (rw c.field-3.ensures at c.in_err-quantity.ensures))

pub returns : goal.returns
returns c = made_resource (fields_of c.args.fields.now) (ten_fields c.args.fields.now c.type_inv.fields) c.requires c.in_ok-name.name c.in_ok-available.available c.in_ok-quantity.quantity
    (rw c.in_ok-name.ensures.value (c.in_ok-name.ensures.some.0 refl)) (sym c.field.ensures ∙ sym c.in_ok-name.ensures.value)
    (rw c.field-2.ensures at c.in_ok-available.ensures)
    (rw c.field-3.ensures at c.in_ok-quantity.ensures)
    (c.are_empty_from.ensures.0 c.if-not-are_empty_from.false)
