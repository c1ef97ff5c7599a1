use Rattle.std.proofs.Common.{◌≡◌, ℕ, map, take}
use Rattle.satisfaction.specs.declared.nodes.WaitState.{WaitState}
use Rattle.small_requests.proofs.places.noted.Given as goal

-- the places of the entries before this one
abbrev pub invariant-loop-entry : goal.invariant-loop-entry
invariant-loop-entry l = l.places.items ≡ map (λ (e : ℕ × WaitState). e.0) (take l.entry-index l.journal)
