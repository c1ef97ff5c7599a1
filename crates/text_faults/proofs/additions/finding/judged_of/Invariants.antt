use Rattle.std.proofs.Common.{◌≢◌, AllPairs}
use Rattle.text_faults.specs.AddedFaults.{AreToldBelow, IsToldAt}
use Rattle.text_faults.proofs.additions.finding.judged_of.Given as goal

-- those of the places so far, each once
abbrev pub invariant-loop-number : goal.invariant-loop-number
invariant-loop-number l = AreToldBelow (IsToldAt l.added l.said l.found) l.number l.faults.items × AllPairs (λ a b. a ≢ b) l.faults.items
