use Rattle.std.proofs.Common.{◌≡◌, ◌++◌, drop, map}
use Rattle.plan_reasons.specs.declared.reasons.Reason.TheVariants as reason
use Rattle.plan_reasons.specs.declared.reasons.Unsatisfied.{Unsatisfied}
use Rattle.plan_reasons.proofs.predecessors.reasons_to_wait.Given as goal

-- the reasons so far, and those of the operations that are left, are all
abbrev pub invariant-loop-unsatisfied : goal.invariant-loop-unsatisfied
invariant-loop-unsatisfied l = l.reasons.items ++ map (λ (x : Unsatisfied). reason.WaitsFor x) (drop l.unsatisfied-index l.found) ≡ map (λ (x : Unsatisfied). reason.WaitsFor x) l.found
