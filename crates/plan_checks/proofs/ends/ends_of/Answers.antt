use Rattle.plan_drafts.specs.Contents.{added_of}
use Rattle.plan_checks.proofs.ends.ends_of.Goals as goal

pub returns-then-may_succeed-clause-may : goal.returns-then-may_succeed-clause-may
returns-then-may_succeed-clause-may c =
    let P = c.args.plan.now in
    let s = added_of c.args.parts.now in
    let succeeds = c.may_succeed.ensures P s c.args.pair.now.1 c.end_of-successor.ensures.status in
    let precedes = c.may_precede.ensures P s c.args.pair.now.0 c.end_of-predecessor.ensures.status in
    (λ yes. (succeeds.0 c.if-may_succeed.true, precedes.0 yes), λ may. precedes.1 may.1)
