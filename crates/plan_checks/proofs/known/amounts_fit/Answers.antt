use Rattle.std.proofs.Common.{rules, tests}
use Rattle.std.proofs.lemmas.Iterator.{YieldsList-from_slice, cases_from_all}
use Rattle.plan_checks.specs.Additions.{NeedsFit}
use Rattle.plan_checks.proofs.ComingIn.{operations_told}
use Rattle.plan_checks.proofs.known.amounts_fit.Goals as goal

pub returns : goal.returns
returns c =
    let Q = NeedsFit c.args.plan.now in
    let told = operations_told c.args.parts.now c.requires c.deref.ensures.value Q c.all.result
    (cases_from_all _ _ _ (λ row. Q row.1) (λ row. ¬ Q row.1) c.all.ensures.ran (YieldsList-from_slice c.deref.result.now cc) (λ x q k. search (rules, tests)) (λ x q k. search (rules, tests))) in (
      λ yes o op is r usage need stock there. ((told.0 yes o op is).fit r usage need).enough stock there,
      λ fits. told.1 (λ o op is. record { fit = λ r usage need. record { enough = fits o op is r usage need } }),
    )
