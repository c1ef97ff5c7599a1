use Rattle.std.proofs.Common.{sym, subst, All}
use Rattle.plan_items.specs.Items.{IsItem}
use Rattle.plan_import.proofs.Saying.{no_plan_said, plan_by_items}
use Rattle.plan_import.proofs.read_plan.Goals as goal

pub draft_of_items-requires : goal.draft_of_items-requires
draft_of_items-requires g c = subst (All IsItem) (sym c.deref.ensures.value) (rw c.in-Some.is at c.in_ok-items.ensures.legal)

pub returns-in_default-clause-plan : goal.returns-in_default-clause-plan
returns-in_default-clause-plan g c = no_plan_said _ (rw c.in_default.is at c.in_ok-items.ensures.said)

pub returns-in-Ok-clause-plan : goal.returns-in-Ok-clause-plan
returns-in-Ok-clause-plan g c =
    let said = rw c.in-Some.is at c.in_ok-items.ensures.said in
    plan_by_items _ c.in-Some.items.items _ said (rw c.deref.ensures.value at c.in-Ok.ensures.denoted)
