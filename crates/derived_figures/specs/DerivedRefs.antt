-- What is kept of a plan beside what it holds.
use Rattle.start_choice.specs.Choices.{AreLatestStarts}
use Rattle.start_choice.specs.plan_drafts.specs.PlanGraphs.{IsGraphFor}
use Rattle.plan_model.specs.Contents.{Contents}
use Rattle.derived_figures.specs.Figures.{AreFigures}
use Rattle.derived_figures.specs.declared.outlines.DerivedRefs.{DerivedRefs}

-- they are those of a plan that holds P
pub record AreDerivedOf (P : Contents) (f : DerivedRefs) : Type 0 where
  pub graph : IsGraphFor P f.graph.now
  pub latest : AreLatestStarts P f.latest.now.starts
  pub figures : AreFigures P f.figures.now
