use Rattle.std.specs.FinMap.{entries}
use Rattle.plan_opening.proofs.Neighbours.{AreAlikeBefore}
use Rattle.plan_opening.proofs.soundness.occurrences.occurrences_are_deleted_whole.Given as goal

-- no two neighbours among the rows that are gone through differ
abbrev pub invariant-loop-i : goal.invariant-loop-i
invariant-loop-i l = AreAlikeBefore (entries l.contents.operations) l.i
