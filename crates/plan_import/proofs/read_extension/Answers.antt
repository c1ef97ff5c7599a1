use Rattle.std.proofs.Common.{sym, subst, All}
use Rattle.plan_items.specs.Items.{IsItem}
use Rattle.plan_import.proofs.Saying.{extension_by_items, no_extension_said}
use Rattle.plan_import.proofs.read_extension.Goals as goal

pub extension_of_items-requires : goal.extension_of_items-requires
extension_of_items-requires g c = subst (All IsItem) (sym c.deref.ensures.value) (rw c.in-Some.is at c.in_ok-items.ensures.legal)

pub returns-in_default-clause-extension : goal.returns-in_default-clause-extension
returns-in_default-clause-extension g c = no_extension_said _ (rw c.in_default.is at c.in_ok-items.ensures.said)

pub returns-in-Ok-clause-extension : goal.returns-in-Ok-clause-extension
returns-in-Ok-clause-extension g c =
    let said = rw c.in-Some.is at c.in_ok-items.ensures.said in
    extension_by_items _ c.in-Some.items.items _ said (rw c.deref.ensures.value at c.in-Ok.ensures.denoted)
