use Rattle.std.specs.FinMap.{entries}
use Rattle.plan_status.proofs.SoFar.{AreSoFar}
use Rattle.plan_status.specs.Summaries.{HasSummary}
use Rattle.plan_status.proofs.summaries.summaries_of.Given as goal

-- the rows below i are gone through
abbrev pub invariant-loop-i : goal.invariant-loop-i
invariant-loop-i l = AreSoFar l.i (entries l.contents.operations) l.summaries.items (HasSummary l.contents)
