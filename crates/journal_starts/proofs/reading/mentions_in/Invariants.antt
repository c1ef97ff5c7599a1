use Rattle.std.proofs.Common.{length}
use Rattle.journal_starts.proofs.Mentioned.{SoFarMentioned}
use Rattle.journal_starts.proofs.reading.mentions_in.Given as goal

abbrev pub invariant-loop-line : goal.invariant-loop-line
invariant-loop-line l = SoFarMentioned l.clock l.journal l.asked l.rest l.mentions.items

abbrev pub decreases-loop-line : goal.decreases-loop-line
decreases-loop-line l = length l.rest
