use Rattle.std.proofs.Common.{◌≡◌, sym, ap, subst, ◌∙◌}
use Rattle.plan_core.proofs.taking.with_writing.Goals as goal
use Rattle.plan_core.proofs.taking.with_writing.Goals.{After-stepped-contents}
use Rattle.request_outcomes.specs.Next.{rewritten}
use Rattle.request_outcomes.specs.small_requests.specs.Revisions.{written}
use Rattle.plan_records.specs.plan_drafts.specs.PlanGraphs.{IsGraphFor}
use Rattle.plan_model.specs.Contents.{Contents}
use Rattle.plan_model.specs.Ready.{named}
use Rattle.plan_opening.specs.derived_figures.specs.Figures.{AreFigures}

-- what is written makes the plan that is meant
is_written : (c : After-stepped-contents) → c.stepped-contents.result ≡ named c.args.named.now (rewritten c.args.writing c.args.plan)
is_written c =
    let os = c.args.named.now in
    c.stepped-contents.ensures
    ∙ ap (λ ks. named os (written ks c.args.writing.revision c.into_parts-contents.result.contents)) c.deref.ensures.value
    ∙ ap (λ (P : Contents). named os (rewritten c.args.writing P)) c.into_parts-contents.ensures.contents

pub changed_figures-figures-requires : goal.changed_figures-figures-requires
changed_figures-figures-requires c = (c.args.plan, named c.args.named.now (rewritten c.args.writing c.args.plan), c.into_parts-contents.ensures.figures, c.requires.figure_change)

pub of-requires-clause-graph : goal.of-requires-clause-graph
of-requires-clause-graph c =
    let graph = c.into_parts-contents.result.graph in
    subst (λ (R : Contents). IsGraphFor R graph) (sym (is_written (goal.at.of-requires-clause-graph c).After-stepped-contents)) (c.requires.frame.graph graph c.into_parts-contents.ensures.graph)

pub of-requires-clause-figures : goal.of-requires-clause-figures
of-requires-clause-figures c =
    let R = named c.args.named.now (rewritten c.args.writing c.args.plan) in
    subst (λ (R : Contents). AreFigures R c.changed_figures-figures.result) (sym (is_written (goal.at.of-requires-clause-figures c).After-stepped-contents))
    (c.changed_figures-figures.ensures c.args.plan R c.into_parts-contents.ensures.figures c.requires.figure_change)
