-- Changes of marks and flags, by which operations become satisfied, or stop being so.
use Rattle.std.specs.Prelude.{◌≡◌, ◌⊎◌, ℕ, ◌<◌, List, Some, length, slice_get, All, Contains}
use Rattle.std.specs.FinMap.{entries}
use Rattle.plan_model.specs.operation_graph.specs.Graphs.{Digraph, HasEdge}
use Rattle.plan_basics.specs.declared.keys.OpKey.{OpKey}
use Rattle.status_rules.specs.declared.Mark.TheVariants.{Deleted}
use Rattle.start_choice.specs.satisfaction.specs.declared.nodes.WaitState.{WaitState}
use Rattle.plan_model.specs.Contents.{Contents, Operation}
use Rattle.plan_model.specs.Status.{IsSatisfied}
use Rattle.plan_model.specs.Moves.{IsMovedAt}
use Rattle.derived_figures.specs.WaitStates.{AreWaitStates}

-- the operation at this place is satisfied
abbrev pub IsSatisfiedAt : Contents → ℕ → Type 0
IsSatisfiedAt P i = (o : OpKey) × (op : Operation) × (slice_get (entries P.operations) i ≡ Some (o, op)) × IsSatisfied P o

-- the operation at this place is deleted
abbrev pub IsDeletedAt : Contents → ℕ → Type 0
IsDeletedAt P i = (o : OpKey) × (op : Operation) × (slice_get (entries P.operations) i ≡ Some (o, op)) × (op.mark ≡ Deleted)

-- only operations at these places differ between P and Q, none of which was satisfied in P, unless it is deleted in Q; and what is kept is right for P
pub record IsRisen (P Q : Contents) (wait_states : List WaitState) (places : List ℕ) : Type 0 where
  pub moved : IsMovedAt P Q places
  pub right : AreWaitStates P wait_states
  pub within : All (λ i. i < length wait_states) places
  pub unsatisfied : (i : ℕ) → Contains places i → ¬ IsSatisfiedAt P i ⊎ IsDeletedAt Q i

-- only operations at these places differ between P and Q, and what follows one of them is one of them or deleted; and what is kept is right for P
pub record IsTakenBack (P Q : Contents) (g : Digraph) (wait_states : List WaitState) (places : List ℕ) : Type 0 where
  pub moved : IsMovedAt P Q places
  pub right : AreWaitStates P wait_states
  pub within : All (λ i. i < length wait_states) places
  pub follow : (i j : ℕ) → Contains places i → HasEdge g i j → Contains places j ⊎ IsDeletedAt P j
