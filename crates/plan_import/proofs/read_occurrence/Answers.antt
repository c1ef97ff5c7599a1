use Rattle.std.proofs.Common.{sym, subst, All}
use Rattle.plan_items.specs.Items.{IsItem}
use Rattle.plan_import.proofs.Saying.{addition_by_items, no_addition_said}
use Rattle.plan_import.proofs.read_occurrence.Goals as goal

pub addition_of_items-requires : goal.addition_of_items-requires
addition_of_items-requires g c = subst (All IsItem) (sym c.deref.ensures.value) (rw c.in-Some.is at c.in_ok-items.ensures.legal)

pub returns-in_default-clause-addition : goal.returns-in_default-clause-addition
returns-in_default-clause-addition g c = no_addition_said _ (rw c.in_default.is at c.in_ok-items.ensures.said)

pub returns-in-Ok-clause-addition : goal.returns-in-Ok-clause-addition
returns-in-Ok-clause-addition g c =
    let said = rw c.in-Some.is at c.in_ok-items.ensures.said in
    addition_by_items _ c.in-Some.items.items _ said (rw c.deref.ensures.value at c.in-Ok.ensures.denoted)
