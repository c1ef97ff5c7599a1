-- What is read off a valid plan is there, and is one: statuses, latest starts, the ready list and the choice.
use Rattle.std.specs.Prelude.{◌≡◌, ◌⊎◌, ◌↔◌, ℕ, ℤ, List, true}
use Rattle.plan_basics.specs.declared.keys.OccKey.{OccKey}
use Rattle.plan_basics.specs.declared.keys.OpKey.{OpKey}
use Rattle.status_rules.specs.declared.OccStatus.{OccStatus}
use Rattle.status_rules.specs.declared.Status.{Status}
use Rattle.status_rules.specs.declared.Status.TheVariants as status
use Rattle.status_rules.specs.Classes.{is_ready, is_satisfied, is_under_way, is_waiting_or_ready}
use Rattle.plan_records.specs.plan_model.specs.Contents.{Contents, IsInPlan}
use Rattle.plan_records.specs.plan_model.specs.Status.{HasOccurrenceStatus, HasStatus, IsReady, IsSatisfied, IsUnderWay, IsWaitingOrReady}
use Rattle.plan_records.specs.plan_model.specs.Ready.{IsReadyList, IsChosen}
use Rattle.plan_records.specs.plan_model.specs.ready_list.specs.declared.ReadyKey.{ReadyKey}
use Rattle.plan_records.specs.plan_model.specs.Starts.{IsLatestStart}
use Rattle.plan_records.specs.plan_model.specs.Valid.{IsSound, IsValid}
use Rattle.plan_records.specs.Changes.{LeavesOver}

-- an operation of a valid plan is satisfied or it isn't
abbrev pub SatisfiedIsTold : Type 0
SatisfiedIsTold = (P : Contents) → IsValid P → (o : OpKey) → IsSatisfied P o ⊎ ¬ IsSatisfied P o

-- an operation is satisfied exactly where its status is complete or deleted
abbrev pub SatisfiedByStatus : Type 0
SatisfiedByStatus = (P : Contents) (o : OpKey) → IsSatisfied P o ↔ (HasStatus P o status.Complete ⊎ HasStatus P o status.Deleted)

-- the classes of this status show what is so of o
pub record AreItsClasses (P : Contents) (o : OpKey) (s : Status) : Type 0 where
  pub ready : IsReady P o ↔ (is_ready s ≡ true)
  pub waiting_or_ready : IsWaitingOrReady P o ↔ (is_waiting_or_ready s ≡ true)
  pub under_way : IsUnderWay P o ↔ (is_under_way s ≡ true)
  pub satisfied : IsSatisfied P o ↔ (is_satisfied s ≡ true)

-- of each operation of a valid plan the classes of its status show whether it is ready, waiting or ready, under way, and satisfied
abbrev pub ClassesOfStatus : Type 0
ClassesOfStatus = (P : Contents) → IsValid P → (o : OpKey) (s : Status) → HasStatus P o s → AreItsClasses P o s

-- each operation of a valid plan has a status, and no other
abbrev pub EachHasOneStatus : Type 0
EachHasOneStatus = (P : Contents) → IsValid P → (o : OpKey) → IsInPlan P o → (s : Status) × HasStatus P o s × ((t : Status) → HasStatus P o t → t ≡ s)

-- and a latest start, and no other
abbrev pub EachHasOneLatestStart : Type 0
EachHasOneLatestStart = (P : Contents) → IsValid P → (o : OpKey) → (v : ℤ) × IsLatestStart P o v × ((w : ℤ) → IsLatestStart P o w → w ≡ v)

-- a valid plan has a ready list
abbrev pub SomeReadyList : Type 0
SomeReadyList = (P : Contents) → IsValid P → (ready : List ReadyKey) × IsReadyList P ready

-- and no other
abbrev pub OneReadyList : Type 0
OneReadyList = (P : Contents) (a b : List ReadyKey) → IsReadyList P a → IsReadyList P b → a ≡ b

-- and at each minute a choice from it
abbrev pub SomeChoice : Type 0
SomeChoice = (P : Contents) (m : ℕ) → IsValid P → (chosen : List OpKey) × IsChosen P m chosen

-- each occurrence of a valid plan has a status, and no other
abbrev pub EachHasOneOccurrenceStatus : Type 0
EachHasOneOccurrenceStatus = (P : Contents) → IsValid P → (c : OccKey) → (s : OccStatus) × HasOccurrenceStatus P c s × ((t : OccStatus) → HasOccurrenceStatus P c t → t ≡ s)

-- of each sound plan a sound one is left once what is over has left, and no other
abbrev pub EachLeavesOneSoundPlan : Type 0
EachLeavesOneSoundPlan = (P : Contents) → IsSound P → (left : Contents) × LeavesOver P left × IsSound left × ((other : Contents) → LeavesOver P other → other ≡ left)
