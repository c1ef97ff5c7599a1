use Rattle.std.proofs.Common.{◌≡◌, ◌∙◌, ap, sym, subst, IfOk, Some}
use Rattle.plan_core.proofs.counted.prepare_loaded.Goals as goal
use Rattle.plan_core.proofs.counted.prepare_loaded.Goals.{In-Ok}
use Rattle.request_outcomes.specs.RequestOutcomes.{AreRequestOutcomeLooks, IsRequestOutcomeOf}
use Rattle.request_outcomes.specs.declared.request_outcome.RequestOutcome.{RequestOutcome}
use Rattle.plan_model.specs.Contents.{Contents}
use Rattle.plan_model.specs.Plan.{plan_held}
use Rattle.request_outcomes.specs.plan_checks.proofs.Searching.{if_err}
use Rattle.plan_opening.specs.counted_records.specs.States.{CountedState}

-- the records hold what the plan holds
is_held : (c : In-Ok) → c.of-records.result.contents ≡ c.args.loaded
is_held c = ap (λ (s : CountedState). s.contents) c.of-records.ensures ∙ c.seeking.ensures ∙ c.into_parts-contents.ensures.contents

-- what it leads to by the records, it leads to in the plan
outcome : (c : In-Ok) → IsRequestOutcomeOf (plan_held c.args.clock (Some c.args.loaded)) c.args.request.now c.args.at c.in-Ok.outcome
outcome c =
    let H = c.of-records.result.contents in
    subst (λ (P : Contents). IsRequestOutcomeOf (plan_held c.args.clock (Some P)) c.args.request.now c.args.at c.in-Ok.outcome) (is_held c) (subst (λ r. IfOk r (IsRequestOutcomeOf (plan_held c.args.clock (Some H)) c.args.request.now c.args.at)) c.in-Ok.is c.outcome_of-records.ensures.outcome)

pub prepared_by-requires : goal.prepared_by-requires
prepared_by-requires c = (plan_held c.args.clock (Some c.args.loaded), c.args.request.now, outcome ((goal.at.prepared_by-requires c).In-Ok))

pub returns-in-Ok-clause-prepared : goal.returns-in-Ok-clause-prepared
returns-in-Ok-clause-prepared c =
    let at = (goal.at.returns-in-Ok-clause-prepared c).In-Ok in
    let H = c.of-records.result.contents in
    let q = c.args.request.now in
    let looks = c.outcome_of-records.result.0.looks in
    let looked = subst (λ r. IfOk r (λ (l : RequestOutcome). AreRequestOutcomeLooks H q.what l looks)) c.in-Ok.is c.outcome_of-records.ensures.looked in
    let counted = subst (AreRequestOutcomeLooks c.args.loaded q.what c.in-Ok.outcome) (sym c.into_contents-contents.ensures.looks) (subst (λ (P : Contents). AreRequestOutcomeLooks P q.what c.in-Ok.outcome looks) (is_held at) looked) in
    c.prepared_by.ensures.prepared (plan_held c.args.clock (Some c.args.loaded)) q (outcome at) counted

pub returns-in-Ok-clause-refused : goal.returns-in-Ok-clause-refused
returns-in-Ok-clause-refused c =
    let at = (goal.at.returns-in-Ok-clause-refused c).In-Ok in
    if_err c.prepared_by.result c.prepared_by.ensures.refused (λ r told. told (plan_held c.args.clock (Some c.args.loaded)) c.args.request.now (outcome at))
