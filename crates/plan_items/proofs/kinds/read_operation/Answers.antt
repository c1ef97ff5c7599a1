use Rattle.std.proofs.Common.{refl, sym, ◌∙◌}
use Rattle.plan_items.specs.Items.{fields_of}
use Rattle.plan_items.proofs.KindLaws.{ten_fields, made_operation, no_not_before}
use Rattle.plan_items.proofs.kinds.read_operation.Goals as goal

pub returns-in_err-not_before : goal.returns-in_err-not_before
returns-in_err-not_before c = rw c.from_residual-in_err-not_before.ensures
    (no_not_before (fields_of c.args.fields.now) c.requires (rw c.field-8.ensures at c.in_err-not_before.ensures))

pub returns : goal.returns
returns c = made_operation (fields_of c.args.fields.now) (ten_fields c.args.fields.now c.type_inv.fields) c.requires
    (record { key = c.in_ok-key.key; workstation = c.in_ok-workstation.workstation; duration = c.in_ok-duration.duration; r1 = c.in_ok-r1.r1; r2 = c.in_ok-r2.r2; not_before = c.in_ok-not_before.not_before; deadline = c.in_ok-deadline.deadline })
    (rw (c.field.ensures, c.field-2.ensures, c.field-3.ensures) at c.in_ok-key.ensures)
    (rw c.in_ok-workstation.ensures.value (c.in_ok-workstation.ensures.some.0 refl)) (sym c.field-4.ensures ∙ sym c.in_ok-workstation.ensures.value)
    (rw c.field-5.ensures at c.in_ok-duration.ensures)
    (rw c.field-6.ensures at c.in_ok-r1.ensures)
    (rw c.field-7.ensures at c.in_ok-r2.ensures)
    (rw c.field-8.ensures at c.in_ok-not_before.ensures)
    (rw c.field-9.ensures at c.in_ok-deadline.ensures)
