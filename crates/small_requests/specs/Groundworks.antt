-- What is worked out of an edit before the figures are written.
use Rattle.std.specs.Prelude.{◌≡◌, ◌⊎◌, ◌<◌, ◌≤◌, ◌+◌, ◌*◌, ℕ, ℤ, true, List, length, All, Contains}
use Rattle.satisfaction.specs.Changes.{HoldFollowers, IsAfterOne}
use Rattle.satisfaction.specs.Counters.{waiting_at, waiting_count}
use Rattle.satisfaction.specs.declared.nodes.WaitState.{WaitState}
use Rattle.operation_graph.specs.Graphs.{Digraph}
use Rattle.plan_checks.specs.start_choice.specs.Choices.{AreLatestStarts}
use Rattle.plan_drafts.specs.PlanGraphs.{IsGraphFor}
use Rattle.plan_model.specs.Contents.{Contents}
use Rattle.plan_model.specs.Valid.{IsSound}
use Rattle.plan_model.specs.Moves.{AreLiveAlike, IsMovedAt}
use Rattle.plan_checks.specs.derived_figures.specs.WaitStates.{AreWaitStates}
use Rattle.small_requests.specs.StepLooks.{IsKeptElsewhere}
use Rattle.plan_checks.specs.derived_figures.specs.Overwritten.{overwritten}
use Rattle.small_requests.specs.Columns.{AreColumnsOf, IsSnapshotOf, IsReadyListOf}
use Rattle.small_requests.specs.Edits.{ArePlacesWith}
use Rattle.small_requests.specs.declared.columns.FigureColumns.{FigureColumns}
use Rattle.small_requests.specs.declared.wait_changes.WaitChange.{WaitChange}
use Rattle.small_requests.specs.declared.edits.Edit.{Edit}
use Rattle.small_requests.specs.declared.groundwork.Groundwork.{Groundwork}
use Rattle.ready_list.specs.Entries.{ReadyEntries}

-- with these values at these places, what was kept is what is to be kept of Q
pub record IsMovedOn (Q : Contents) (edits all : List ℕ) (values : List (ℕ × WaitState)) (wait_states : List WaitState) : Type 0 where
  pub touched : ArePlacesWith Q edits all
  pub within : All (λ e. e.0 < length wait_states) values
  pub kept_then : AreWaitStates Q (overwritten values wait_states)
  pub elsewhere : IsKeptElsewhere all wait_states (overwritten values wait_states)

-- what is found by counting anew what these edits lead to
abbrev pub IsWaitChange : Contents → List ℕ → List WaitState → WaitChange → Type 0
IsWaitChange Q edits wait_states r = IsMovedOn Q edits r.touched.items r.wait_states.items wait_states

-- of these columns, once the edits made Q of the plan: what is kept then where something is touched, and what stands there
pub record IsGroundwork (Q : Contents) (edits : List ℕ) (l : FigureColumns) (g : Groundwork) : Type 0 where
  pub moved_on : IsMovedOn Q edits g.touched.items g.wait_states.items l.wait_states.items
  pub old : IsSnapshotOf Q g.touched.items l g.old

-- the edits made Q of P, both sound, and deleted none; P has these latest starts, columns and ready list, of which this was worked out
pub record HasGroundwork (P Q : Contents) (edits : List ℕ) (starts : List ℤ) (l : FigureColumns) (r : ReadyEntries) (g : Groundwork) : Type 0 where
  pub sound : IsSound P
  pub sound_after : IsSound Q
  pub moved : IsMovedAt P Q edits
  pub alike : AreLiveAlike P Q
  pub latest : AreLatestStarts P starts
  pub columns : AreColumnsOf P l
  pub ready : IsReadyListOf P r
  pub worked_out : IsGroundwork Q edits l g

-- looks went from `before` to `after`, so many at each edit of this one, as it was found that Q keeps `kept_then` in place of `kept`, which differs where something is touched: one at each edit of a rerun that has a predecessor, and one at each operation that comes to wait for none
pub record IsCounted (Q : Contents) (e : Edit) (each : ℕ) (wait_states kept_then : List WaitState) (touched : List ℕ) (before after : ℕ) : Type 0 where
  pub around : (g : Digraph) → IsGraphFor Q g → (i : ℕ) → Contains touched i → Contains e.places.items i ⊎ (((e.is_rerun ≡ true) × IsAfterOne g e.places.items i) ⊎ (waiting_at kept_then i < waiting_at wait_states i))
  pub most : (g : Digraph) (followers : List ℕ) → IsGraphFor Q g → (e.is_rerun ≡ true → HoldFollowers g e.places.items followers) → after + waiting_count kept_then ≤ before + each * length e.places.items + length followers + waiting_count wait_states
