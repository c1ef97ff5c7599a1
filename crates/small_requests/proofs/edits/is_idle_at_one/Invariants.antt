use Rattle.std.proofs.Common.{Contains, take}
use Rattle.plan_model.specs.declared.moves.Marking.{Marking}
use Rattle.small_requests.specs.Idle.{IsIdle}
use Rattle.small_requests.proofs.edits.is_idle_at_one.Given as goal

-- none of those so far
abbrev pub invariant-loop-marking : goal.invariant-loop-marking
invariant-loop-marking l = (m : Marking) → Contains (take l.marking-index l.marks) m → ¬ IsIdle l.what m
