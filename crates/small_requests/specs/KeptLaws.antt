-- What stays where only marks and flags change, and that small requests and namings change no more.
use Rattle.std.specs.Prelude.{◌≡◌, ◌↔◌, ◌⊎◌, ℕ, ℤ, true, List, [], All, Contains}
use Rattle.std.specs.FinMap.{keys}
use Rattle.operation_graph.specs.Graphs.{Digraph, HasEdge}
use Rattle.plan_basics.specs.Keys.{Name}
use Rattle.plan_basics.specs.Refusals.{NoneRefuses}
use Rattle.plan_basics.specs.declared.keys.OpKey.{OpKey}
use Rattle.ready_list.specs.Choice.{is_among}
use Rattle.plan_model.specs.Contents.{Contents, IsInPlan, IsLive, attribute_at}
use Rattle.plan_model.specs.Ready.{IsChosen, named}
use Rattle.plan_model.specs.Status.{IsReady}
use Rattle.plan_model.specs.Valid.{IsValid}
use Rattle.plan_drafts.specs.PlanGraphs.{IsGraphFor}
use Rattle.plan_records.specs.declared.What.{What}
use Rattle.plan_records.specs.declared.What.TheVariants as what
use Rattle.plan_records.specs.Acceptance.{MayBeDone}
use Rattle.plan_records.specs.Changes.{Changes}
use Rattle.plan_checks.specs.start_choice.specs.Choices.{AreLatestStarts}
use Rattle.plan_model.specs.Moves.{AreLiveAlike, IsMovedAt}
use Rattle.small_requests.specs.RequestEdits.{AreUnsatisfiedAt, ArePlacesOf, IsDeletedAt, IsEditedAt, IsRerun, IsSmall, KeepsOperations, KeepsResources, KeepsWorkstations}

-- two plans have the same operations, of which the same are deleted, on workstations that report alike, the same graph of them, and the same latest starts
pub record HaveOneFrame (P Q : Contents) : Type 0 where
  pub attributes : (w : Name) → attribute_at P w ≡ attribute_at Q w
  pub keys : keys P.operations ≡ keys Q.operations
  pub live : (o : OpKey) → IsLive P o ↔ IsLive Q o
  pub graph : (g : Digraph) → IsGraphFor P g → IsGraphFor Q g
  pub latest : (starts : List ℤ) → AreLatestStarts P starts → AreLatestStarts Q starts

-- where only marks and flags change, and the same operations are deleted, the frame stays
abbrev pub FrameStays : Type 0
FrameStays = (P Q : Contents) (places : List ℕ) → IsMovedAt P Q places → AreLiveAlike P Q → HaveOneFrame P Q

-- one such change after another is one, at all indices of both
abbrev pub MovesFollow : Type 0
MovesFollow = (P Q R : Contents) (first second places : List ℕ) → IsMovedAt P Q first → IsMovedAt Q R second → ((i : ℕ) → Contains first i ⊎ Contains second i → Contains places i) → IsMovedAt P R places

-- where the same are deleted after the one as before, and after the other, the same are deleted after both
abbrev pub LivesFollow : Type 0
LivesFollow = (P Q R : Contents) (second : List ℕ) → IsMovedAt Q R second → AreLiveAlike P Q → AreLiveAlike Q R → AreLiveAlike P R

-- where they change nowhere, the operations stay
abbrev pub OperationsStay : Type 0
OperationsStay = (P Q : Contents) → IsMovedAt P Q [] → Q.operations ≡ P.operations

-- a small request that isn't refused changes marks and flags where it edits them, and no others; it deletes none, and none comes back
abbrev pub SmallRequestsMove : Type 0
SmallRequestsMove = (P Q : Contents) (w : What) (m : ℕ) (places : List ℕ) → IsValid P → IsSmall w → NoneRefuses (MayBeDone P m w) → Changes P w Q → IsEditedAt P w places → IsMovedAt P Q places × AreLiveAlike P Q

-- and what it edits isn't satisfied, unless it is a rerun
abbrev pub EditedAreUnsatisfied : Type 0
EditedAreUnsatisfied = (P : Contents) (w : What) (m : ℕ) (places : List ℕ) → IsValid P → ¬ IsRerun w → NoneRefuses (MayBeDone P m w) → IsEditedAt P w places → AreUnsatisfiedAt P places

-- what comes after something that a rerun edits is edited or deleted
abbrev pub RerunsGoOn : Type 0
RerunsGoOn = (P : Contents) (o : OpKey) (places : List ℕ) (g : Digraph) → IsGraphFor P g → IsEditedAt P (what.Rerun o) places → (i j : ℕ) → Contains places i → HasEdge g i j → Contains places j ⊎ IsDeletedAt P j

-- special resources change by what makes one available or not, workstations by what opens one, operations by reports and commands alone
pub record KeepsOthers (P : Contents) (w : What) (Q : Contents) : Type 0 where
  pub resources : KeepsResources w → Q.resources ≡ P.resources
  pub workstations : KeepsWorkstations w → Q.workstations ≡ P.workstations
  pub operations : KeepsOperations w → Q.operations ≡ P.operations

-- so it is with each small request
abbrev pub SmallRequestsKeepOthers : Type 0
SmallRequestsKeepOthers = (P Q : Contents) (w : What) → IsSmall w → Changes P w Q → KeepsOthers P w Q

-- to name operations that are ready changes their marks alone, and deletes none
abbrev pub NamingMoves : Type 0
NamingMoves = (P : Contents) (os : List OpKey) (places : List ℕ) → ((o : OpKey) → is_among os o ≡ true → IsReady P o) → ArePlacesOf P os places → IsMovedAt P (named os P) places × AreLiveAlike P (named os P)

-- what is chosen is ready, and in the plan
abbrev pub ChosenAreReady : Type 0
ChosenAreReady = (P : Contents) (m : ℕ) (os : List OpKey) → IsChosen P m os → ((o : OpKey) → is_among os o ≡ true → IsReady P o) × All (IsInPlan P) os

-- what is ready isn't satisfied
abbrev pub ReadyAreUnsatisfied : Type 0
ReadyAreUnsatisfied = (P : Contents) (os : List OpKey) (places : List ℕ) → ((o : OpKey) → is_among os o ≡ true → IsReady P o) → ArePlacesOf P os places → AreUnsatisfiedAt P places
