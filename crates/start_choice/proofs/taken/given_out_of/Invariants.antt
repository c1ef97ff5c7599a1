use Rattle.std.specs.FinMap.{entries}
use Rattle.start_choice.proofs.GivenPlaces.{AreAt}
use Rattle.start_choice.proofs.GivenRows.{given_before}
use Rattle.start_choice.proofs.taken.given_out_of.Given as goal

-- the operations that are gone through are counted
abbrev pub invariant-loop-summary : goal.invariant-loop-summary
invariant-loop-summary l = AreAt (entries l.uncounted.contents.now.workstations) l.given.items (given_before l.uncounted.contents.now l.summary-index)
