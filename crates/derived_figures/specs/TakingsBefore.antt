-- A plan before some of its operations got other marks, told by the plan after and the markings that stood there.
use Rattle.std.specs.Prelude.{◌≡◌, ℕ, List, Some, length, slice_get}
use Rattle.std.specs.FinMap.{entries}
use Rattle.plan_basics.specs.declared.keys.OpKey.{OpKey}
use Rattle.special_resources.specs.Holdings.{Held}
use Rattle.plan_model.specs.Contents.{Contents, Operation}
use Rattle.plan_model.specs.Valid.{IsValid}
use Rattle.start_choice.specs.Choices.{AreGivenOut, AreHeldIn}
use Rattle.plan_model.specs.Markings.{marking_of}
use Rattle.plan_model.specs.Moves.{IsMovedAt}
use Rattle.plan_model.specs.declared.moves.Marking.{Marking}
use Rattle.derived_figures.specs.Between.{AreGivenBetween, AreHeldBetween, IsRemarkedPlan}
use Rattle.workstations.specs.declared.Capacity.{Capacity}

-- the operation at this place of P has this marking
pub record IsMarkedAt (P : Contents) (i : ℕ) (m : Marking) : Type 0 where
  pub key : OpKey
  pub operation : Operation
  pub row : slice_get (entries P.operations) i ≡ Some (key, operation)
  pub marking : marking_of operation ≡ m

-- as many markings as places, each that of the operation of P at its place
pub record WereMarked (P : Contents) (places : List ℕ) (marks : List Marking) : Type 0 where
  pub size : length marks ≡ length places
  pub each : (k i : ℕ) (m : Marking) → slice_get places k ≡ Some i → slice_get marks k ≡ Some m → IsMarkedAt P i m

-- there was a valid plan of which operations got other marks at these places, where these markings stood; this was given out and held in it
pub record HasPlanBefore (Q : Contents) (places : List ℕ) (marks : List Marking) (given : List Capacity) (held : Held) : Type 0 where
  pub plan : Contents
  pub valid : IsValid plan
  pub moved : IsMovedAt plan Q places
  pub marked : WereMarked plan places marks
  pub are_given : AreGivenOut plan (entries plan.workstations) given
  pub are_held : AreHeldIn plan held

-- P is valid and has other marks than Q, this one at place i; on the way from P to Q this is given out and held as far as there
pub record IsBeforeAt (P Q : Contents) (i : ℕ) (m : Marking) (given : List Capacity) (held : Held) : Type 0 where
  pub valid : IsValid P
  pub remarked : IsRemarkedPlan P Q
  pub marked : IsMarkedAt P i m
  pub are_given : AreGivenBetween P Q i given
  pub are_held : AreHeldBetween P Q i held
