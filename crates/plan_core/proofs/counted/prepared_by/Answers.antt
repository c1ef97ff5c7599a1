use Rattle.std.proofs.Common.{sym, subst}
use Rattle.request_outcomes.specs.plan_checks.proofs.Searching.{if_err}
use Rattle.plan_core.proofs.Seen.{prepared_in}
use Rattle.plan_core.proofs.counted.prepared_by.Goals as goal
use Rattle.request_outcomes.specs.RequestOutcomes.{AreRequestOutcomeLooks, IsRequestOutcomeOf}
use Rattle.plan_core.specs.Prepares.{IsPreparedIn}
use Rattle.request_outcomes.specs.declared.request_outcome.RequestOutcome.{RequestOutcome}

pub returns-in-Small-clause-prepared : goal.returns-in-Small-clause-prepared
returns-in-Small-clause-prepared c = λ P request of looked.
    let is = subst (λ (l : RequestOutcome). IsRequestOutcomeOf P request c.args.at l) c.in-Small.is of in
    let are = subst (λ (l : RequestOutcome). AreRequestOutcomeLooks P.contents request.what l c.args.looks) c.in-Small.is looked in
    subst (IsPreparedIn P request) (sym c.of.ensures) (prepared_in P request c.args.at c.in-Small.accepted c.args.looks is are)

pub prepared_rebuild-requires : goal.prepared_rebuild-requires
prepared_rebuild-requires c = (c.requires.0, c.requires.1, subst (λ (l : RequestOutcome). IsRequestOutcomeOf c.requires.0 c.requires.1 c.args.at l) c.in-Whole.is c.requires.2)

pub returns-in-Whole-clause-prepared : goal.returns-in-Whole-clause-prepared
returns-in-Whole-clause-prepared c = λ P request of looked.
    c.prepared_rebuild.ensures.prepared P request (subst (λ (l : RequestOutcome). IsRequestOutcomeOf P request c.args.at l) c.in-Whole.is of) (subst (λ (l : RequestOutcome). AreRequestOutcomeLooks P.contents request.what l c.args.looks) c.in-Whole.is looked)

pub returns-in-Whole-clause-refused : goal.returns-in-Whole-clause-refused
returns-in-Whole-clause-refused c =
    if_err c.prepared_rebuild.result c.prepared_rebuild.ensures.refused (λ r told P request of. told P request (subst (λ (l : RequestOutcome). IsRequestOutcomeOf P request c.args.at l) c.in-Whole.is of))
