use Rattle.start_choice.specs.Shut.{AreShut}
use Rattle.start_choice.proofs.shut.shut_at.Given as goal

-- what is told so far is so
abbrev pub invariant-loop-place : goal.invariant-loop-place
invariant-loop-place l = AreShut l.workstations l.at l.given l.shut.items
