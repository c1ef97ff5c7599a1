use Rattle.std.proofs.Common.{rules, tests}
use Rattle.std.proofs.lemmas.Iterator.{YieldsList-from_slice, cases_from_all}
use Rattle.std.specs.Map.{keys_of}
use Rattle.plan_drafts.specs.PlanItems.{IsOneOf}
use Rattle.plan_drafts.proofs.Lists.{all_told}
use Rattle.plan_denotation.proofs.in_order.are_named.Goals as goal

pub returns : goal.returns
returns c =
    let names = keys_of c.args.workstations.now in
    all_told (IsOneOf names) c.args.said.now c.all.result
    (cases_from_all _ _ _ (IsOneOf names) (λ x. ¬ IsOneOf names x) c.all.ensures.ran (YieldsList-from_slice c.args.said.now cc) (λ x q k. search (rules, tests)) (λ x q k. search (rules, tests)))
