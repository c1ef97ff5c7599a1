use Rattle.std.proofs.Common.{map, Contains, rules, tests}
use Rattle.std.proofs.lemmas.Iterator.{YieldsList-from_slice, cases_from_all}
use Rattle.plan_basics.specs.declared.keys.OccKey.{OccKey}
use Rattle.plan_model.specs.declared.Occurrence.{Occurrence}
use Rattle.plan_drafts.specs.PlanItems.{occurrence_of}
use Rattle.plan_drafts.proofs.Lists.{all_told}
use Rattle.plan_denotation.proofs.in_order.each_has_operation.Goals as goal

pub returns : goal.returns
returns c =
    all_told (λ (row : OccKey × Occurrence). Contains (map occurrence_of c.args.keys.now) row.0) c.args.occurrences.now c.all.result
    (cases_from_all _ _ _ (λ (row : OccKey × Occurrence). Contains (map occurrence_of c.args.keys.now) row.0) (λ x. ¬ (λ (row : OccKey × Occurrence). Contains (map occurrence_of c.args.keys.now) row.0) x) c.all.ensures.ran (YieldsList-from_slice c.args.occurrences.now cc) (λ x q k. search (rules, tests)) (λ x q k. search (rules, tests)))
