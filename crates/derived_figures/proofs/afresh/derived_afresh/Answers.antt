use Rattle.std.proofs.Common.{◌≡◌, ◌∙◌, arith, sym, subst, ap, length, List}
use Rattle.std.specs.FinMap.{len-entries}
use Rattle.derived_figures.proofs.afresh.derived_afresh.Goals as goal
use Rattle.start_choice.specs.Choices.{AreLatestStarts}
use Rattle.start_choice.specs.plan_drafts.specs.PlanGraphs.{IsGraphFor}
use Rattle.derived_figures.specs.Figures.{AreFigures}
use Rattle.plan_model.specs.Contents.{Contents}
use Rattle.start_choice.specs.plan_status.specs.Summaries.{AreSummaries}

pub latest_of-requires : goal.latest_of-requires
latest_of-requires c =
    let P = c.args.records.now.contents in
    (P, record { valid = c.uncounted.ensures.sound.valid; graph = c.requires.graph; summaries = subst (AreSummaries P) (sym c.deref.ensures.value) c.in_ok-summaries.ensures.summaries })

pub figures_of-requires-clause-graph : goal.figures_of-requires-clause-graph
figures_of-requires-clause-graph c = subst (λ (P : Contents). IsGraphFor P c.args.graph.now) (sym c.in_ok-summaries.ensures.contents) c.requires.graph

pub figures_of-requires-clause-latest : goal.figures_of-requires-clause-latest
figures_of-requires-clause-latest c =
    let P = c.args.records.now.contents in
    subst (λ (P : Contents). AreLatestStarts P c.in_ok-latest.latest.starts) (sym c.in_ok-summaries.ensures.contents)
    (c.in_ok-latest.ensures.starts P (record { valid = c.uncounted.ensures.sound.valid; graph = c.requires.graph; summaries = subst (AreSummaries P) (sym c.deref.ensures.value) c.in_ok-summaries.ensures.summaries }))

pub figures_of-requires-clause-summaries : goal.figures_of-requires-clause-summaries
figures_of-requires-clause-summaries c = subst (λ (P : Contents). AreSummaries P c.deref-2.result.now) (sym c.in_ok-summaries.ensures.contents) (subst (AreSummaries c.args.records.now.contents) (sym c.deref-2.ensures.value) c.in_ok-summaries.ensures.summaries)

pub returns-clause-derived_afresh : goal.returns-clause-derived_afresh
returns-clause-derived_afresh c =
    let P = c.args.records.now.contents in
    record {
      summaries = c.in_ok-summaries.ensures.summaries;
      latest = c.in_ok-latest.ensures.starts P (record { valid = c.uncounted.ensures.sound.valid; graph = c.requires.graph; summaries = subst (AreSummaries P) (sym c.deref.ensures.value) c.in_ok-summaries.ensures.summaries });
      figures = subst (λ (P : Contents). AreFigures P c.in_ok-figures.figures) c.in_ok-summaries.ensures.contents c.in_ok-figures.ensures.figures;
    }

pub returns-clause-most : goal.returns-clause-most
returns-clause-most c =
    let most = c.in_ok-figures.ensures.most in
    let first = c.in_ok-summaries.ensures.most in
    omega (arith, most, first, len-entries c.args.records.now.contents.operations, c.in_ok-summaries.ensures.summaries.size, ap length c.deref-2.ensures.value)
