use Rattle.std.proofs.Common.{rules, tests}
use Rattle.std.specs.Map.{keys_of}
use Rattle.std.proofs.lemmas.Iterator.{YieldsList-from_slice, cases_from_all}
use Rattle.plan_drafts.specs.ExtensionItems.{IsPairAmong}
use Rattle.plan_drafts.proofs.Lists.{all_told}
use Rattle.plan_denotation.proofs.extensions.are_pairs_among.Goals as goal

pub returns : goal.returns
returns c =
    all_told (IsPairAmong (keys_of c.args.occurrences.now) c.args.keys.now) c.args.pairs.now c.all.result
    (cases_from_all _ _ _ (IsPairAmong (keys_of c.args.occurrences.now) c.args.keys.now) (λ x. ¬ IsPairAmong (keys_of c.args.occurrences.now) c.args.keys.now x) c.all.ensures.ran (YieldsList-from_slice c.args.pairs.now cc) (λ x q k. search (rules, tests)) (λ x q k. search (rules, tests)))
