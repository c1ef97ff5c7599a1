use Rattle.std.proofs.Common.{refl, sym, subst, Bool, not, Decides}
use Rattle.request_outcomes.proofs.Staying.{absent_told, stays_told}
use Rattle.request_outcomes.proofs.remaining.stays.Goals as goal
use Rattle.plan_records.specs.Changes.{IsOver}

pub returns-in-Some : goal.returns-in-Some
returns-in-Some c =
    let P = c.args.outline.now in
    let k = c.args.key.now in
    subst (λ (b : Bool). Decides (not b) (¬ IsOver P k)) (sym c.is_over.ensures) (stays_told P k c.in-Some.status c.in-Some.ensures.found)

pub returns-in-None : goal.returns-in-None
returns-in-None c = absent_told c.args.outline.now c.uncounted.ensures.sound.valid c.args.key.now (c.in-None.ensures.absent refl)
