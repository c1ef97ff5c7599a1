-- What is kept of a plan.
use Rattle.std.specs.Prelude.{ℤ, ◌+◌, ◌≤◌, List, length}
use Rattle.std.specs.FinMap.{entries}
use Rattle.plan_model.specs.operation_graph.specs.Graphs.{Digraph}
use Rattle.start_choice.specs.Choices.{AreGivenOut, AreHeldIn, AreLatestStarts, AreReadyEntries}
use Rattle.start_choice.specs.plan_drafts.specs.Places.{AreStatuses}
use Rattle.start_choice.specs.plan_drafts.specs.PlanGraphs.{IsGraphFor}
use Rattle.plan_model.specs.Contents.{Contents}
use Rattle.derived_figures.specs.declared.figures.Figures.{Figures}
use Rattle.start_choice.specs.plan_status.specs.Standings.{AreStandings, AreTallies}
use Rattle.derived_figures.specs.WaitStates.{AreWaitStates}

-- they are this plan's: each is what the plan's own definition of it says, and the ready list has room for an entry of each operation
pub record AreFigures (P : Contents) (f : Figures) : Type 0 where
  pub wait_states : AreWaitStates P f.wait_states.items
  pub standings : AreStandings P f.standings.items
  pub statuses : AreStatuses P f.statuses.items
  pub tallies : AreTallies P f.tallies.items
  pub given : AreGivenOut P (entries P.workstations) f.given.items
  pub holders : AreHeldIn P f.holdings.held
  pub ready : AreReadyEntries P f.ready.entries
  pub room : length (entries P.operations) ≤ length f.ready.entries + f.ready.room

-- what is the graph of the one, and its latest starts, is so of the other too
pub record KeepsFrame (P Q : Contents) : Type 0 where
  pub graph : (g : Digraph) → IsGraphFor P g → IsGraphFor Q g
  pub latest : (starts : List ℤ) → AreLatestStarts P starts → AreLatestStarts Q starts
