use Rattle.std.proofs.Common.{◌≡◌, ◌∙◌, sym, subst, true≢false, Some}
use Rattle.plan_rows.specs.start_choice.specs.Choices.{AreLatestStarts}
use Rattle.plan_drafts.specs.PlanGraphs.{IsGraphFor}
use Rattle.plan_rows.specs.derived_figures.specs.Figures.{AreFigures}
use Rattle.plan_model.specs.Contents.{Contents}
use Rattle.plan_model.specs.Plan.{plan_held}
use Rattle.plan_opening.proofs.opening.kept_with_rows.Goals as goal
use Rattle.plan_records.specs.Rows.{AreRows}

pub are_rows_of-requires : goal.are_rows_of-requires
are_rows_of-requires c =
    let w = c.in_ok-derived_afresh.derived_afresh in
    let is = c.in_ok-derived_afresh.ensures.derived_afresh in
    let same = sym c.in_ok-derived_afresh.ensures.contents in
    record {
      derived = record {
        graph = subst (λ (P : Contents). IsGraphFor P c.args.graph.now) same c.requires.graph;
        latest = subst (λ (P : Contents). AreLatestStarts P w.latest.starts) same is.latest;
        figures = subst (λ (P : Contents). AreFigures P w.figures) same is.figures;
      };
    }

pub returns-then-not-branch-clause-found : goal.returns-then-not-branch-clause-found
returns-then-not-branch-clause-found c = λ are.
    let told = c.in_ok-are_rows_of.ensures.told.1 (subst (λ (P : Contents). AreRows (plan_held c.args.clock (Some P)) c.args.rows.now) (sym c.in_ok-derived_afresh.ensures.contents) are) in
    true≢false (sym told ∙ c.if-not-branch.true)

pub returns-clause-found : goal.returns-clause-found
returns-clause-found c = (
  subst (λ (P : Contents). AreRows (plan_held c.args.clock (Some P)) c.args.rows.now) c.in_ok-derived_afresh.ensures.contents (c.in_ok-are_rows_of.ensures.told.0 c.if-not-branch.false),
  c.in_ok-derived_afresh.ensures.derived_afresh,
)
