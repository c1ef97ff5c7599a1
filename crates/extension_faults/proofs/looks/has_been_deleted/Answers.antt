use Rattle.std.proofs.Common.{◌↔◌, sym, subst, IsTrue}
use Rattle.plan_drafts.specs.plan_model.specs.Status.{HasStatus}
use Rattle.plan_drafts.specs.status_rules.specs.declared.Status.TheVariants.{Deleted}
use Rattle.extension_faults.proofs.Looking.{deleted_is, false_is, no_status}
use Rattle.extension_faults.proofs.looks.has_been_deleted.Goals as goal

pub returns-in-Some : goal.returns-in-Some
returns-in-Some c =
    let P = c.args.plan.now.plan.contents in
    let k = c.args.key.now in
    subst (λ b. IsTrue b ↔ HasStatus P k Deleted) (sym c.is_deleted.ensures) (deleted_is P k c.in-Some.status c.in-Some.ensures)

pub returns-in-None : goal.returns-in-None
returns-in-None c = false_is (no_status c.args.plan.now.plan.contents c.args.key.now c.in-None.ensures Deleted)
