use Rattle.std.proofs.Common.{refl, sym, subst, true≢false}
use Rattle.plan_drafts.specs.plan_model.specs.Status.{HasStatus}
use Rattle.extension_faults.proofs.Looking.{alone_in}
use Rattle.extension_faults.proofs.looks.status_of.Goals as goal

pub returns-in-Some : goal.returns-in-Some
returns-in-Some c =
    let P = c.args.plan.now.plan.contents in
    let k = c.args.key.now in
    let s = c.in-Some.view.status in
    let view = c.in-Some.ensures.view in
    let has = subst (λ z. HasStatus P z s) view.0 view.1.status in
    alone_in P c.read_for_proof.ensures.valid k s (c.in-Some.ensures.some.0 refl) has

pub returns-in-None : goal.returns-in-None
returns-in-None c = λ h. true≢false (sym (c.in-None.ensures.some.1 h))
