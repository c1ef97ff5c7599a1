use Rattle.std.proofs.Common.{◌*◌}
use Rattle.extension_faults.specs.Beside.{AreBefore, AreFaultsBelow}
use Rattle.extension_faults.proofs.finding.faults_said.Given as goal

-- the faults of the places so far, each in its turn
abbrev pub invariant-loop-place : goal.invariant-loop-place
invariant-loop-place l = AreFaultsBelow l.plan.plan.contents l.said l.place l.faults.items × AreBefore (8 * l.place) l.faults.items
