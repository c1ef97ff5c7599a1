use Rattle.std.proofs.Common.{◌↔◌, refl, sym, subst, true≢false, not, IsTrue}
use Rattle.plan_drafts.specs.plan_model.specs.Status.{HasOccurrenceStatus}
use Rattle.extension_faults.specs.Beside.{Stays}
use Rattle.extension_faults.proofs.Looking.{false_is, stays_is}
use Rattle.extension_faults.proofs.looks.stays.Goals as goal

pub returns-in-Some : goal.returns-in-Some
returns-in-Some c =
    let P = c.args.plan.now.plan.contents in
    let k = c.args.key.now in
    let s = c.in-Some.view.status in
    let view = c.in-Some.ensures.view in
    let has = subst (λ z. HasOccurrenceStatus P z s) view.0 view.1.status in
    subst (λ b. IsTrue (not b) ↔ Stays P k) (sym c.is_over.ensures) (stays_is P k s (c.in-Some.ensures.some.0 refl) has)

pub returns-in-None : goal.returns-in-None
returns-in-None c = false_is (λ h. true≢false (sym (c.in-None.ensures.some.1 h.0)))
