-- What was kept of a plan before marks and flags of it changed.
use Rattle.std.specs.Prelude.{◌≡◌, ℕ, ℤ, List, Some, slice_get, Contains}
use Rattle.std.specs.FinMap.{entries}
use Rattle.plan_basics.specs.declared.keys.OpKey.{OpKey}
use Rattle.status_rules.specs.declared.Counts.{Counts}
use Rattle.status_rules.specs.declared.Status.{Status}
use Rattle.ready_list.specs.declared.entry.ReadyEntry.{ReadyEntry}
use Rattle.plan_model.specs.Contents.{Contents, Operation}
use Rattle.plan_model.specs.Status.{HasStatus}
use Rattle.start_choice.specs.plan_drafts.specs.Places.{AreStatuses}
use Rattle.start_choice.specs.plan_status.specs.Standings.{AreTallies}
use Rattle.start_choice.specs.Choices.{AreLatestStarts, AreReadyEntries}

-- the latest starts, statuses, numbers by occurrence and ready list of a plan
pub record AreReadOff (P : Contents) (starts : List ℤ) (ss : List Status) (ns : List Counts) (es : List ReadyEntry) : Type 0 where
  pub latest : AreLatestStarts P starts
  pub statuses : AreStatuses P ss
  pub tallies : AreTallies P ns
  pub ready : AreReadyEntries P es

-- an operation at another place than these has in Q each status that it has in P
abbrev pub KeepStatus : Contents → Contents → List ℕ → Type 0
KeepStatus P Q places =
    (i : ℕ) → ¬ Contains places i → (o : OpKey) (op : Operation) → slice_get (entries Q.operations) i ≡ Some (o, op) → (s : Status) → HasStatus P o s → HasStatus Q o s

-- the operation at the place has this status in the plan
abbrev pub HasStatusAt : Contents → ℕ × Status → Type 0
HasStatusAt P value = (o : OpKey) (op : Operation) → slice_get (entries P.operations) value.0 ≡ Some (o, op) → HasStatus P o value.1

-- at each other place than these the status is one that the operation there has
abbrev pub AreRightBeside : Contents → List ℕ → List Status → Type 0
AreRightBeside P places statuses = (i : ℕ) → ¬ Contains places i → (s : Status) → slice_get statuses i ≡ Some s → HasStatusAt P (i, s)
