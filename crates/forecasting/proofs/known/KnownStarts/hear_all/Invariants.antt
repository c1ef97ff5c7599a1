use Rattle.std.proofs.Common.{length}
use Rattle.forecasting.specs.Known.{HaveHeard}
use Rattle.forecasting.proofs.known.KnownStarts.hear_all.Given as goal

abbrev pub invariant-loop-mention : goal.invariant-loop-mention
invariant-loop-mention l = HaveHeard l.fn.self l.mentions l.self l.rest

abbrev pub decreases-loop-mention : goal.decreases-loop-mention
decreases-loop-mention l = length l.rest
