use Rattle.std.specs.FinMap.{entries}
use Rattle.forecasting.proofs.Ends.{IsFirstEndUpTo}
use Rattle.forecasting.proofs.next.end_after.Given as goal

abbrev pub invariant-loop-place : goal.invariant-loop-place
invariant-loop-place l = IsFirstEndUpTo (entries l.fn.loaded.operations) l.going l.fn.since l.fn.after l.place-index l.first
