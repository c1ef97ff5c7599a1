use Rattle.std.specs.FinMap.{entries}
use Rattle.start_choice.specs.plan_drafts.specs.Places.{AreStatuses}
use Rattle.plan_model.specs.Contents.{Contents}
use Rattle.start_choice.specs.plan_status.proofs.SoFar.{AreSoFar}
use Rattle.start_choice.specs.plan_status.specs.Standings.{AreStandings}
use Rattle.derived_figures.specs.WaitStates.{IsKept}
use Rattle.derived_figures.proofs.wait_states.wait_states_of.Given as goal

-- the rows below i are gone through
abbrev pub invariant-loop-i : goal.invariant-loop-i
invariant-loop-i l = (P : Contents) → AreStandings P l.standings → AreStatuses P l.statuses → AreSoFar l.i (entries P.operations) l.wait_states.items (IsKept P)
