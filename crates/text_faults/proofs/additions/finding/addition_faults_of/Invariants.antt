use Rattle.std.proofs.Common.{◌≢◌, AllPairs}
use Rattle.text_faults.specs.AddedFaults.{AreToldBelow, IsAdditionFaultAt}
use Rattle.text_faults.proofs.additions.finding.addition_faults_of.Given as goal

-- those of the places so far, each once
abbrev pub invariant-loop-place : goal.invariant-loop-place
invariant-loop-place l = AreToldBelow (IsAdditionFaultAt l.added l.said) l.place l.faults.items × AllPairs (λ a b. a ≢ b) l.faults.items
