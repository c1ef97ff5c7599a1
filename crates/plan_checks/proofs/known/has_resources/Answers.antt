use Rattle.std.proofs.Common.{◌≡◌, sym, ap, ◌∙◌, true, rules, tests}
use Rattle.std.proofs.lemmas.Iterator.{YieldsList-from_slice, cases_from_all}
use Rattle.std.specs.FinMap.{contains_key}
use Rattle.plan_model.specs.Contents.{Operation}
use Rattle.special_resources.specs.declared.Need.{Need}
use Rattle.plan_checks.proofs.ComingIn.{needs_told}
use Rattle.plan_checks.proofs.known.has_resources.Goals as goal

pub returns : goal.returns
returns c =
    let P = c.args.plan.now in
    let Q = λ (need : Need). contains_key P.resources need.name ≡ true in
    let needs = c.as_slice.result.now in
    let same = sym (ap (λ (op : Operation). op.needs) c.operation.view_is) ∙ c.as_slice.ensures.usages in
    needs_told c.args.operation.now needs same c.as_slice.ensures.in_order (λ r usage. contains_key P.resources r ≡ true) c.all.result
    (cases_from_all _ _ _ Q (λ x. ¬ Q x) c.all.ensures.ran (YieldsList-from_slice needs cc) (λ x q k. search (rules, tests)) (λ x q k. search (rules, tests)))
