-- What is worked out afresh of a plan.
use Rattle.derived_figures.specs.declared.afresh.DerivedAfresh.{DerivedAfresh}
use Rattle.start_choice.specs.Choices.{AreLatestStarts}
use Rattle.derived_figures.specs.Figures.{AreFigures}
use Rattle.plan_model.specs.Contents.{Contents}
use Rattle.start_choice.specs.plan_status.specs.Summaries.{AreSummaries}

-- it is this plan's: each part is what the plan's own definition of it says
pub record IsDerivedAfresh (P : Contents) (w : DerivedAfresh) : Type 0 where
  pub summaries : AreSummaries P w.summaries.items
  pub latest : AreLatestStarts P w.latest.starts
  pub figures : AreFigures P w.figures
