use Rattle.std.proofs.Common.{rules, tests}
use Rattle.std.proofs.lemmas.Iterator.{YieldsList-from_slice, cases_from_all}
use Rattle.plan_drafts.specs.ExtensionItems.{IsNeedOf}
use Rattle.plan_drafts.proofs.Lists.{all_told}
use Rattle.plan_denotation.proofs.extensions.are_needs_of.Goals as goal

pub returns : goal.returns
returns c =
    all_told (IsNeedOf c.args.keys.now) c.args.needs.now c.all.result
    (cases_from_all _ _ _ (IsNeedOf c.args.keys.now) (λ x. ¬ IsNeedOf c.args.keys.now x) c.all.ensures.ran (YieldsList-from_slice c.args.needs.now cc) (λ x q k. search (rules, tests)) (λ x q k. search (rules, tests)))
