use Rattle.std.proofs.Common.{◌≡◌, ◌++◌, drop}
use Rattle.std.specs.Prelude.{filter}
use Rattle.plan_reasons.specs.Places.{is_unsatisfied_at}
use Rattle.plan_reasons.proofs.predecessors.unsatisfied_of.Given as goal

-- those of the operations so far, and those of the others, are those of all
abbrev pub invariant-loop-place : goal.invariant-loop-place
invariant-loop-place l = l.found.items ++ filter (is_unsatisfied_at l.statuses) (drop l.place-index l.places) ≡ filter (is_unsatisfied_at l.statuses) l.places
