use Rattle.record_faults.specs.Faults.{AreFaultsBelow}
use Rattle.record_faults.specs.Sayings.{texts_of}
use Rattle.record_faults.proofs.gather.faults_of_places.Given as goal

-- the faults of the places so far
abbrev pub invariant-loop-place : goal.invariant-loop-place
invariant-loop-place l = AreFaultsBelow (texts_of l.records) l.reading.said.items l.place l.faults.items
