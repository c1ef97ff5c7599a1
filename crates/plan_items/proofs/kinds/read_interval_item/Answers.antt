use Rattle.std.proofs.Common.{refl, sym, ◌∙◌}
use Rattle.plan_items.specs.Items.{fields_of}
use Rattle.plan_items.proofs.KindLaws.{ten_fields, made_interval, no_interval}
use Rattle.plan_items.proofs.kinds.read_interval_item.Goals as goal

pub returns-in_err-interval : goal.returns-in_err-interval
returns-in_err-interval c = rw c.from_residual-in_err-interval.ensures
    (no_interval (fields_of c.args.fields.now) c.requires (rw (c.field-2.ensures, c.field-3.ensures, c.field-4.ensures, c.field-5.ensures, c.field-6.ensures) at c.in_err-interval.ensures))

pub returns : goal.returns
returns c = made_interval (fields_of c.args.fields.now) (ten_fields c.args.fields.now c.type_inv.fields) c.requires c.in_ok-workstation.workstation c.in_ok-interval.interval
    (rw c.in_ok-workstation.ensures.value (c.in_ok-workstation.ensures.some.0 refl)) (sym c.field.ensures ∙ sym c.in_ok-workstation.ensures.value)
    (rw (c.field-2.ensures, c.field-3.ensures, c.field-4.ensures, c.field-5.ensures, c.field-6.ensures) at c.in_ok-interval.ensures)
    (c.are_empty_from.ensures.0 c.if-not-are_empty_from.false)
