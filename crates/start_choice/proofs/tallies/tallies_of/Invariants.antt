use Rattle.std.specs.FinMap.{entries}
use Rattle.counted_records.specs.plan_drafts.specs.Places.{AreByPlace}
use Rattle.counted_records.specs.plan_status.proofs.Tallying.{IsTallySoFar}
use Rattle.start_choice.proofs.tallies.tallies_of.Given as goal

-- the rows below i are counted
abbrev pub invariant-loop-i : goal.invariant-loop-i
invariant-loop-i l = AreByPlace (entries l.uncounted.contents.now.occurrences) l.tallies.items (IsTallySoFar l.uncounted.contents.now (entries l.uncounted.contents.now.operations) l.i)
