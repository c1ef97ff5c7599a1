use Rattle.std.specs.FinMap.{entries}
use Rattle.plan_model.specs.Contents.{Contents}
use Rattle.plan_status.specs.Summaries.{IsSummarizedBy}
use Rattle.plan_status.proofs.RowStandings.{AreStandingsSoFar}
use Rattle.plan_status.proofs.InTurn.{pairs_so_far}
use Rattle.plan_status.proofs.standings.standings_of.Given as goal

-- the pairs of the edges so far have been added
abbrev pub invariant-loop-before : goal.invariant-loop-before
invariant-loop-before l = (P : Contents) → IsSummarizedBy P l.graph l.summaries → AreStandingsSoFar P (pairs_so_far (entries P.operations) l.before-items l.before-index) l.before-index l.standings.items
