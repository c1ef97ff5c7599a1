-- The ready list, and which of it are chosen to start.
use Rattle.std.specs.Prelude.{◌≡◌, ◌↔◌, ℕ, cond, List, Contains, Some}
use Rattle.std.specs.List.Sorted.{IsStrictlySortedBy}
use Rattle.std.specs.FinMap.{get}
use Rattle.plan_basics.specs.declared.keys.OpKey.{OpKey}
use Rattle.plan_basics.specs.declared.Attr.TheVariants.{Automatic}
use Rattle.status_rules.specs.declared.Mark.{Mark}
use Rattle.status_rules.specs.declared.Mark.TheVariants.{Named}
use Rattle.ready_list.specs.declared.ReadyKey.{ReadyKey}
use Rattle.ready_list.specs.Order.{ready_cmp}
use Rattle.ready_list.specs.Choice.{operations_of, is_among, IsChoice}
use Rattle.plan_model.specs.Contents.{Contents, Operation, Has, HasAttribute}
use Rattle.plan_model.specs.declared.Occurrence.{Occurrence}
use Rattle.plan_model.specs.Status.{IsReady}
use Rattle.plan_model.specs.Starts.{IsAllowedToStart, IsLatestStart}
use Rattle.plan_model.specs.Revise.{revise}

-- an operation that is arriving or ready, with what its place in the list goes by
abbrev pub IsEntry : Contents → ReadyKey → Type 0
IsEntry P k =
    IsReady P k.op × IsLatestStart P k.op k.latest × Has P k.op (λ op. k.duration ≡ op.duration)
    × ((c : Occurrence) × (get P.occurrences k.op.occurrence ≡ Some c) × (k.priority ≡ c.priority))

-- the ready list: all entries, each once, ascending
pub record IsReadyList (P : Contents) (keys : List ReadyKey) : Type 0 where
  pub ascends : IsStrictlySortedBy ready_cmp keys
  pub has_all : (k : ReadyKey) → Contains keys k ↔ IsEntry P k

-- the operation with this mark
abbrev pub with_mark : Mark → Operation → Operation
with_mark mark op = record op { mark = mark }

-- the plan with these operations marked named
abbrev pub named : List OpKey → Contents → Contents
named os P = record P { operations = revise (λ o op. cond (is_among os o) (with_mark Named op) op) P.operations }

-- o is on a workstation that the desk starts operations on
abbrev pub IsOnAutomatic : Contents → OpKey → Type 0
IsOnAutomatic P o = Has P o (λ op. HasAttribute P op.workstation Automatic)

-- what is named at m, in order
pub record IsChosen (P : Contents) (m : ℕ) (chosen : List OpKey) : Type 0 where
  pub ready : List ReadyKey
  pub is_ready_list : IsReadyList P ready
  pub choice : IsChoice (IsOnAutomatic P) (λ before o. IsAllowedToStart (named before P) o m) (operations_of ready) chosen

-- there is one choice at most
abbrev pub OneChoice : Type 0
OneChoice = (P : Contents) (m : ℕ) (a b : List OpKey) → IsChosen P m a → IsChosen P m b → a ≡ b
