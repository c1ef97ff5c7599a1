use Rattle.std.specs.FinMap.{entries}
use Rattle.plan_model.specs.Contents.{Contents}
use Rattle.plan_model.specs.Status.{HasStatus}
use Rattle.plan_status.proofs.SoFar.{AreSoFar}
use Rattle.plan_status.specs.Summaries.{AreSummaries}
use Rattle.plan_status.specs.Standings.{AreStandings}
use Rattle.plan_status.proofs.statuses.statuses_of.Given as goal

-- the rows below i are gone through
abbrev pub invariant-loop-i : goal.invariant-loop-i
invariant-loop-i l = (P : Contents) → AreSummaries P l.summaries → AreStandings P l.standings → AreSoFar l.i (entries P.operations) l.statuses.items (HasStatus P)
