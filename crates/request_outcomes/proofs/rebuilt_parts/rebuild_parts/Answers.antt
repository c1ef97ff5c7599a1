use Rattle.std.proofs.Common.{◌≡◌, sym, subst, arith, IfOk}
use Rattle.request_outcomes.proofs.rebuilt_parts.rebuild_parts.Goals as goal
use Rattle.request_outcomes.specs.declared.rebuilt_parts.RebuiltParts.{RebuiltParts}
use Rattle.small_requests.specs.derived_figures.specs.Afresh.{IsDerivedAfresh}
use Rattle.plan_drafts.specs.PlanGraphs.{IsGraphFor}
use Rattle.plan_model.specs.Contents.{Contents}
use Rattle.plan_model.specs.Ready.{IsChosen, named}
use Rattle.small_requests.specs.plan_changes.proofs.Answered.{if_ok}

pub rebuilt_by-requires-clause-graph : goal.rebuilt_by-requires-clause-graph
rebuilt_by-requires-clause-graph c = subst (λ (P : Contents). IsGraphFor P c.args.graph) (sym c.in-Ok.ensures.contents) c.requires

pub rebuilt_by-requires-clause-derived_afresh : goal.rebuilt_by-requires-clause-derived_afresh
rebuilt_by-requires-clause-derived_afresh c = subst (λ (P : Contents). IsDerivedAfresh P c.in-Ok.derived_afresh) (sym c.in-Ok.ensures.contents) c.in-Ok.ensures.derived_afresh

pub returns-in-Ok-clause-chosen : goal.returns-in-Ok-clause-chosen
returns-in-Ok-clause-chosen c = subst (λ (P : Contents). IfOk c.rebuilt_by.result.1 (λ (s : RebuiltParts). IsChosen P c.args.at s.named.items)) c.in-Ok.ensures.contents c.rebuilt_by.ensures.chosen

pub returns-in-Ok-clause-contents : goal.returns-in-Ok-clause-contents
returns-in-Ok-clause-contents c = subst (λ (P : Contents). IfOk c.rebuilt_by.result.1 (λ (s : RebuiltParts). c.rebuilt_by.result.0.contents ≡ named s.named.items P)) c.in-Ok.ensures.contents c.rebuilt_by.ensures.contents

pub returns-in-Ok-clause-most : goal.returns-in-Ok-clause-most
returns-in-Ok-clause-most c =
    let first = c.in-Ok.ensures.most in
    if_ok c.rebuilt_by.result.1 (λ s h. omega (arith, h, first)) c.rebuilt_by.ensures.most
