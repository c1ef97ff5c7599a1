use Rattle.forecasting.proofs.Kept.{AreKeptUpTo}
use Rattle.forecasting.proofs.known.KnownStarts.followed_in.Given as goal

abbrev pub invariant-loop-place : goal.invariant-loop-place
invariant-loop-place l = AreKeptUpTo l.fn.loaded l.fn.self l.fn.fresh l.place l.next
