-- What small requests edit: which operations, and at which indices these are.
use Rattle.std.specs.Prelude.{◌≡◌, ◌↔◌, ℕ, ◌<◌, true, List, length, Contains, Option, None, Some, slice_get}
use Rattle.std.specs.Ordering.{nat_cmp}
use Rattle.std.specs.FinMap.{entries}
use Rattle.std.specs.List.Sorted.{IsStrictlySortedBy}
use Rattle.plan_basics.specs.declared.keys.OpKey.{OpKey}
use Rattle.ready_list.specs.Choice.{is_among}
use Rattle.status_rules.specs.declared.Mark.TheVariants.{Deleted}
use Rattle.plan_model.specs.Contents.{Contents, Operation}
use Rattle.plan_model.specs.Starts.{Reaches}
use Rattle.plan_model.specs.Status.{IsSatisfied}
use Rattle.plan_records.specs.Changes.{operation_of}
use Rattle.plan_records.specs.declared.What.{What}
use Rattle.plan_records.specs.declared.What.TheVariants as what

-- ---- requests

-- it changes marks and flags, which special resources are available or when workstations are open, and nothing else
abbrev pub IsSmall : What → Type 0
IsSmall (what.Load draft) = ⊥
IsSmall (what.DeleteOccurrence c) = ⊥
IsSmall (what.AddOccurrence a) = ⊥
IsSmall (what.Extend a) = ⊥
IsSmall (what.AddDependency p s) = ⊥
IsSmall _ = Unit {0}

-- it takes back what was reported of all that an operation reaches
abbrev pub IsRerun : What → Type 0
IsRerun (what.Rerun o) = Unit {0}
IsRerun _ = ⊥

-- the operation of which it reports, or that it commands, where it edits no other
abbrev pub target_of : What → Option OpKey
target_of (what.Rerun o) = None
target_of w = operation_of w

-- the small request edits the mark or a flag of q
abbrev pub Edits : Contents → What → OpKey → Type 0
Edits P (what.Rerun o) q = Reaches P o q
Edits P w q = target_of w ≡ Some q

-- it leaves special resources as they are
abbrev pub KeepsResources : What → Type 0
KeepsResources (what.SetAvailable r available) = ⊥
KeepsResources _ = Unit {0}

-- it leaves workstations as they are
abbrev pub KeepsWorkstations : What → Type 0
KeepsWorkstations (what.ReplaceIntervals w items) = ⊥
KeepsWorkstations _ = Unit {0}

-- it leaves operations as they are
abbrev pub KeepsOperations : What → Type 0
KeepsOperations what.Tick = Unit {0}
KeepsOperations (what.SetAvailable r available) = Unit {0}
KeepsOperations (what.ReplaceIntervals w items) = Unit {0}
KeepsOperations _ = ⊥

-- ---- indices

-- the row at an index is that of o
abbrev pub StandsAt : Contents → ℕ → OpKey → Operation → Type 0
StandsAt P i o op = slice_get (entries P.operations) i ≡ Some (o, op)

-- the indices of exactly the operations of which this is so, ascending
pub record ArePlacesWhere (P : Contents) (is : OpKey → Type 0) (places : List ℕ) : Type 0 where
  pub ascend : IsStrictlySortedBy nat_cmp places
  pub within : (i : ℕ) → Contains places i → i < length (entries P.operations)
  pub each : (i : ℕ) (o : OpKey) (op : Operation) → StandsAt P i o op → Contains places i ↔ is o

-- the indices of these operations, ascending
abbrev pub ArePlacesOf : Contents → List OpKey → List ℕ → Type 0
ArePlacesOf P os = ArePlacesWhere P (λ o. is_among os o ≡ true)

-- the indices of what the small request edits, ascending
abbrev pub IsEditedAt : Contents → What → List ℕ → Type 0
IsEditedAt P w = ArePlacesWhere P (Edits P w)

-- no operation at these indices is satisfied
abbrev pub AreUnsatisfiedAt : Contents → List ℕ → Type 0
AreUnsatisfiedAt P places = (i : ℕ) (o : OpKey) (op : Operation) → Contains places i → StandsAt P i o op → ¬ IsSatisfied P o

-- the operation at an index is deleted
abbrev pub IsDeletedAt : Contents → ℕ → Type 0
IsDeletedAt P i = (o : OpKey) × (op : Operation) × StandsAt P i o op × (op.mark ≡ Deleted)
