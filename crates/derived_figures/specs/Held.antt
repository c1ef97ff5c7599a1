-- What a loaded plan holds, with what is kept of it.
use Rattle.start_choice.specs.Choices.{AreLatestStarts}
use Rattle.start_choice.specs.plan_drafts.specs.PlanGraphs.{IsGraphFor}
use Rattle.derived_figures.specs.Figures.{AreFigures}
use Rattle.derived_figures.specs.declared.loaded.LoadedPlan.TheInside.{Inside}

-- with what it holds is kept what follows from that
pub record IsHeld (p : Inside) : Type 0 where
  pub graph : IsGraphFor p.contents p.graph
  pub latest : AreLatestStarts p.contents p.latest.starts
  pub figures : AreFigures p.contents p.figures
