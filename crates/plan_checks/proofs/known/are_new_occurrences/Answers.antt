use Rattle.std.proofs.Common.{◌≡◌, false, rules, tests}
use Rattle.std.proofs.lemmas.Iterator.{YieldsList-from_slice, cases_from_all}
use Rattle.std.specs.FinMap.{contains_key}
use Rattle.plan_basics.specs.declared.keys.OccKey.{OccKey}
use Rattle.plan_checks.proofs.ComingIn.{occurrences_told}
use Rattle.plan_checks.proofs.known.are_new_occurrences.Goals as goal

pub returns : goal.returns
returns c =
    let Q = λ (k : OccKey). contains_key c.args.plan.now.occurrences k ≡ false in
    occurrences_told c.args.parts.now c.requires c.deref.ensures.value Q c.all.result
    (cases_from_all _ _ _ (λ row. Q row.0) (λ row. ¬ Q row.0) c.all.ensures.ran (YieldsList-from_slice c.deref.result.now cc) (λ x q k. search (rules, tests)) (λ x q k. search (rules, tests)))
