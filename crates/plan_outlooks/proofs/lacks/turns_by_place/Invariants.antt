use Rattle.plan_outlooks.specs.Replays.{AreTurnsUpTo}
use Rattle.plan_outlooks.proofs.lacks.turns_by_place.Given as goal

abbrev pub invariant-loop-place : goal.invariant-loop-place
invariant-loop-place l = AreTurnsUpTo l.fn.loaded l.fn.since l.fn.done l.fn.from l.place l.turns.items
