use Rattle.std.proofs.Common.{◌↔◌, sym, subst, IsTrue}
use Rattle.plan_drafts.specs.plan_model.specs.Status.{IsWaitingOrReady}
use Rattle.extension_faults.proofs.Looking.{false_is, nor_waits, waiting_is}
use Rattle.extension_faults.proofs.looks.waits_or_is_ready.Goals as goal

pub returns-in-Some : goal.returns-in-Some
returns-in-Some c =
    let P = c.args.plan.now.plan.contents in
    let k = c.args.key.now in
    subst (λ b. IsTrue b ↔ IsWaitingOrReady P k) (sym c.is_waiting_or_ready.ensures) (waiting_is P k c.in-Some.status c.in-Some.ensures)

pub returns-in-None : goal.returns-in-None
returns-in-None c = false_is (nor_waits c.args.plan.now.plan.contents c.args.key.now c.in-None.ensures)
