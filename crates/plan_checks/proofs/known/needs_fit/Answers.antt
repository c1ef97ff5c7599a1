use Rattle.std.proofs.Common.{sym, ap, ◌∙◌, rules, tests}
use Rattle.std.proofs.lemmas.Iterator.{YieldsList-from_slice, cases_from_all}
use Rattle.plan_model.specs.Contents.{Operation}
use Rattle.special_resources.specs.Holders.{Usage}
use Rattle.special_resources.specs.declared.Need.{Need}
use Rattle.plan_checks.proofs.ComingIn.{needs_told}
use Rattle.plan_checks.specs.Additions.{HasSoMuch}
use Rattle.plan_checks.proofs.known.needs_fit.Goals as goal

pub returns : goal.returns
returns c =
    let P = c.args.plan.now in
    let Q = λ (need : Need). HasSoMuch P need.name need.amount in
    let needs = c.as_slice.result.now in
    let same = sym (ap (λ (op : Operation). op.needs) c.operation.view_is) ∙ c.as_slice.ensures.usages in
    let told = needs_told c.args.operation.now needs same c.as_slice.ensures.in_order (λ r (usage : Usage). HasSoMuch P r usage.claim.amount) c.all.result
    (cases_from_all _ _ _ Q (λ x. ¬ Q x) c.all.ensures.ran (YieldsList-from_slice needs cc) (λ x q k. search (rules, tests)) (λ x q k. search (rules, tests))) in
    (λ yes. record { fit = told.0 yes }, λ fits. told.1 fits.fit)
