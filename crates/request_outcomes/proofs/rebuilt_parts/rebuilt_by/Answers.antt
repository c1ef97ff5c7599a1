use Rattle.std.proofs.Common.{sym, subst, IfOk}
use Rattle.request_outcomes.proofs.rebuilt_parts.rebuilt_by.Goals as goal
use Rattle.small_requests.specs.declared.naming_afresh.NamedAfresh.{NamedAfresh}
use Rattle.small_requests.specs.derived_figures.specs.Figures.{AreFigures, KeepsFrame}
use Rattle.small_requests.specs.plan_status.specs.Summaries.{AreSummaries}

pub name_afresh-records-requires-clause-latest : goal.name_afresh-records-requires-clause-latest
name_afresh-records-requires-clause-latest c = c.requires.derived_afresh.latest

pub name_afresh-records-requires-clause-figures : goal.name_afresh-records-requires-clause-figures
name_afresh-records-requires-clause-figures c = c.requires.derived_afresh.figures

pub name_afresh-records-requires-clause-summaries : goal.name_afresh-records-requires-clause-summaries
name_afresh-records-requires-clause-summaries c = subst (AreSummaries c.args.records.contents) (sym c.deref.ensures.value) c.requires.derived_afresh.summaries

-- the graph and the latest starts are of what is named too
pub returns-in-Ok-clause-kept : goal.returns-in-Ok-clause-kept
returns-in-Ok-clause-kept c =
    let R = c.name_afresh-records.result.0.contents in
    let keeps = subst (λ r. IfOk r (λ (s : NamedAfresh). KeepsFrame c.args.records.contents R)) c.in-Ok.is c.name_afresh-records.ensures.frame in
    record {
      graph = keeps.graph c.args.graph c.requires.graph;
      latest = keeps.latest c.args.derived_afresh.latest.starts c.requires.derived_afresh.latest;
      figures = subst (λ r. IfOk r (λ (s : NamedAfresh). AreFigures R s.figures)) c.in-Ok.is c.name_afresh-records.ensures.figures;
    }
