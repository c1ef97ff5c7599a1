use Rattle.std.proofs.Common.{rules, tests}
use Rattle.std.proofs.lemmas.Iterator.{YieldsList-from_slice, cases_from_all}
use Rattle.plan_checks.specs.Additions.{HasResources}
use Rattle.plan_checks.proofs.ComingIn.{operations_told}
use Rattle.plan_checks.proofs.known.are_resources_known.Goals as goal

pub returns : goal.returns
returns c =
    let Q = HasResources c.args.plan.now in
    operations_told c.args.parts.now c.requires c.deref.ensures.value Q c.all.result
    (cases_from_all _ _ _ (λ row. Q row.1) (λ row. ¬ Q row.1) c.all.ensures.ran (YieldsList-from_slice c.deref.result.now cc) (λ x q k. search (rules, tests)) (λ x q k. search (rules, tests)))
