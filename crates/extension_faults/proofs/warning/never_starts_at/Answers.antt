use Rattle.std.proofs.Common.{Some, refl}
use Rattle.plan_items.specs.declared.Item.TheVariants as item
use Rattle.record_faults.proofs.Warned.{of_operation, says_of}
use Rattle.extension_faults.specs.Warned.{NeverStarts}
use Rattle.extension_faults.proofs.warning.never_starts_at.Goals as goal

pub returns-in-Some-Operation : goal.returns-in-Some-Operation
returns-in-Some-Operation c =
    let o = c.in-Some-Operation.operation in
    of_operation c.args.said.now c.args.place (Some (item.Operation o)) (says_of c.args.said.now c.args.place (Some (item.Operation o)) (rw c.in-Some-Operation.field-0-is at c.in-Some-Operation.ensures)) (NeverStarts c.args.plan.now.plan) (Some o) o refl
    (λ p. (λ h. cc h, λ h. cc h)) c.never_starts.result c.never_starts.ensures
