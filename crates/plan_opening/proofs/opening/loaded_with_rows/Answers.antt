use Rattle.std.proofs.Common.{◌∙◌, sym, subst, ap}
use Rattle.plan_drafts.specs.PlanGraphs.{IsGraphFor}
use Rattle.plan_model.specs.Contents.{Contents}
use Rattle.plan_rows.specs.counted_records.specs.States.{CountedState}
use Rattle.plan_opening.proofs.opening.loaded_with_rows.Goals as goal

pub kept_with_rows-kept-requires : goal.kept_with_rows-kept-requires
kept_with_rows-kept-requires c = record {
  graph = subst (λ (s : CountedState). IsGraphFor s.contents c.in_ok-graph.graph) (sym c.of-records.ensures) (subst (λ (P : Contents). IsGraphFor P c.in_ok-graph.graph) c.valid.ensures.contents c.in_ok-graph.ensures);
}
