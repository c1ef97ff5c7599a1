use Rattle.std.proofs.Common.{Contains, rules, tests}
use Rattle.std.proofs.lemmas.Iterator.{YieldsList-from_slice, cases_from_all}
use Rattle.std.specs.Map.{keys_of}
use Rattle.plan_basics.specs.Intervals.{OpenInterval}
use Rattle.plan_basics.specs.Keys.{Name}
use Rattle.plan_drafts.proofs.Lists.{all_told}
use Rattle.plan_denotation.proofs.intervals.are_of_these.Goals as goal

pub returns : goal.returns
returns c =
    all_told (λ (said : Name × OpenInterval). Contains (keys_of c.args.workstations.now) said.0) c.args.intervals.now c.all.result
    (cases_from_all _ _ _ (λ (said : Name × OpenInterval). Contains (keys_of c.args.workstations.now) said.0) (λ x. ¬ (λ (said : Name × OpenInterval). Contains (keys_of c.args.workstations.now) said.0) x) c.all.ensures.ran (YieldsList-from_slice c.args.intervals.now cc) (λ x q k. search (rules, tests)) (λ x q k. search (rules, tests)))
