-- What is kept of a plan's operations: which are satisfied, and how many predecessors each waits for.
use Rattle.std.specs.Prelude.{◌≡◌, ◌↔◌, true, List}
use Rattle.std.specs.FinMap.{entries}
use Rattle.plan_basics.specs.declared.keys.OpKey.{OpKey}
use Rattle.ready_list.specs.Choice.{is_among}
use Rattle.start_choice.specs.satisfaction.specs.declared.nodes.WaitState.{WaitState}
use Rattle.plan_model.specs.Contents.{Contents}
use Rattle.plan_model.specs.Ready.{named}
use Rattle.plan_model.specs.Status.{IsReady, IsSatisfied}
use Rattle.start_choice.specs.plan_drafts.specs.Places.{AreByPlace}
use Rattle.start_choice.specs.plan_records.specs.Rows.{IsWaitingFor}

-- whether o is satisfied, and how many of its live predecessors aren't
abbrev pub IsKept : Contents → OpKey → WaitState → Type 0
IsKept P o k = ((k.satisfied ≡ true) ↔ IsSatisfied P o) × IsWaitingFor P o k.waiting

-- what is kept of each operation, in key order
abbrev pub AreWaitStates : Contents → List WaitState → Type 0
AreWaitStates P wait_states = AreByPlace (entries P.operations) wait_states (IsKept P)

-- to name operations that are ready changes nothing of what is kept
abbrev pub NamingKeepsKept : Type 0
NamingKeepsKept = (P : Contents) (os : List OpKey) → ((k : OpKey) → is_among os k ≡ true → IsReady P k) → (wait_states : List WaitState) → AreWaitStates P wait_states → AreWaitStates (named os P) wait_states
