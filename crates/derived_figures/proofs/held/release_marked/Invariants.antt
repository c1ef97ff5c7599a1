use Rattle.derived_figures.proofs.Releasing.{AreReleasedSoFar}
use Rattle.derived_figures.proofs.held.release_marked.Given as goal

-- of the first needs, what the mark doesn't hold is released
abbrev pub invariant-loop-need : goal.invariant-loop-need
invariant-loop-need l = AreReleasedSoFar l.fn.holdings.held l.key l.need-items l.mark l.need-index l.holdings.held
