-- What a small request looks at in the plan that it is tried in.
use Rattle.std.specs.Prelude.{◌≡◌, ◌≢◌, ◌↔◌, ◌⊎◌, ℕ, zero, suc, ◌+◌, ◌*◌, ◌<◌, ◌≤◌, Bool, true, List, length, Contains, Some}
use Rattle.std.specs.FinMap.{entries, get}
use Rattle.std.specs.List.Sorted.{IsStrictlySortedBy}
use Rattle.std.specs.Ordering.{nat_cmp}
use Rattle.plan_basics.specs.declared.keys.OpKey.{OpKey}
use Rattle.satisfaction.specs.Changes.{HoldFollowers, IsAfterOne}
use Rattle.satisfaction.specs.Counters.{wait_state_at, waiting_at, waiting_count}
use Rattle.satisfaction.specs.declared.nodes.WaitState.{WaitState}
use Rattle.small_requests.specs.RequestEdits.{ArePlacesOf, Edits, IsRerun, StandsAt}
use Rattle.operation_graph.specs.Graphs.{Digraph}
use Rattle.plan_checks.specs.start_choice.specs.Choices.{AreReadyEntries}
use Rattle.plan_drafts.specs.PlanGraphs.{IsGraphFor}
use Rattle.plan_model.specs.Contents.{Contents, Operation}
use Rattle.plan_checks.specs.derived_figures.specs.WaitStates.{AreWaitStates}
use Rattle.plan_records.specs.declared.What.{What}
use Rattle.plan_checks.specs.derived_figures.specs.UnknownPlaces.{unknown_places}
use Rattle.ready_list.specs.declared.entry.ReadyEntry.{ReadyEntry}
use Rattle.status_rules.specs.declared.Mark.TheVariants.{Unmarked}

-- these are the places of both lists, ascending
pub record AreBoth (first second all : List ℕ) : Type 0 where
  pub ascend : IsStrictlySortedBy nat_cmp all
  pub both : (i : ℕ) → Contains all i ↔ (Contains first i ⊎ Contains second i)

-- at any other place than these the same is kept
abbrev pub IsKeptElsewhere : List ℕ → List WaitState → List WaitState → Type 0
IsKeptElsewhere places before after = (i : ℕ) → ¬ Contains places i → wait_state_at after i ≡ wait_state_at before i

-- the operation has another mark than before, and one, or another flag
abbrev pub IsMarkedAnew : Operation → Operation → Type 0
IsMarkedAnew before after = ((after.mark ≢ before.mark) × (after.mark ≢ Unmarked)) ⊎ ((after.held ≢ before.held) ⊎ (after.nop ≢ before.nop))

-- the request edits the operations at these places, ascending, by which Q comes of P: it reaches them in a rerun, or they are marked anew
pub record AreWorkedAt (P Q : Contents) (w : What) (places : List ℕ) : Type 0 where
  pub ascend : IsStrictlySortedBy nat_cmp places
  pub within : (i : ℕ) → Contains places i → i < length (entries P.operations)
  pub edited : (i : ℕ) (o : OpKey) (op : Operation) → Contains places i → StandsAt P i o op → Edits P w o
  pub anew : (i : ℕ) (o : OpKey) (before after : Operation) → Contains places i → StandsAt P i o before → get Q.operations o ≡ Some after → IsRerun w ⊎ IsMarkedAnew before after

-- this many, but one where there is none
abbrev pub one_at_least : ℕ → ℕ
one_at_least zero = 1
one_at_least (suc n) = suc n

-- looks went from `before` to `after` as the edits at these places, which made Q of P, were followed and these operations were named: two at each place that is edited, one at each of them in a rerun that has a predecessor, one at each operation that comes to wait for none, one for each that is ready, and two at each that is touched and is noted in the end, of which there are so many
pub record IsStepLooked (P Q : Contents) (is_rerun : Bool) (edits : List ℕ) (os : List OpKey) (noted before after : ℕ) : Type 0 where
  pub wait_states : List WaitState
  pub kept_then : List WaitState
  pub are_kept : AreWaitStates P wait_states
  pub are_kept_then : AreWaitStates Q kept_then
  pub moved : List ℕ
  pub moved_ascend : IsStrictlySortedBy nat_cmp moved
  pub moved_within : (i : ℕ) → Contains moved i → i < length (entries P.operations)
  pub elsewhere : IsKeptElsewhere moved wait_states kept_then
  pub around : (g : Digraph) → IsGraphFor P g → (i : ℕ) → Contains moved i → Contains edits i ⊎ (((is_rerun ≡ true) × IsAfterOne g edits i) ⊎ (waiting_at kept_then i < waiting_at wait_states i))
  pub places : List ℕ
  pub are_places : ArePlacesOf Q os places
  pub asked : List ReadyEntry
  pub are_asked : AreReadyEntries Q asked
  pub touched : List ℕ
  pub joined : AreBoth moved places touched
  pub all_noted : noted ≡ length touched
  pub most : (g : Digraph) (followers : List ℕ) → IsGraphFor P g → (is_rerun ≡ true → HoldFollowers g edits followers) →
      after + waiting_count kept_then ≤ before + 2 * length edits + length followers + waiting_count wait_states + length asked + length moved + length (unknown_places moved places) + length touched
  pub fewest : (18446744073709551615 ≤ after) ⊎ (before + noted ≤ after)
