use Rattle.std.proofs.Common.{take}
use Rattle.plan_reasons.specs.Places.{AreAt}
use Rattle.plan_reasons.proofs.predecessors.unsatisfied_at_each.Given as goal

abbrev pub invariant-loop-place : goal.invariant-loop-place
invariant-loop-place l = AreAt l.loaded (take l.place-index l.places) l.found.items
