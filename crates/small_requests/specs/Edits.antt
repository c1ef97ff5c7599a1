-- What a small request edits, and what is touched by that.
use Rattle.std.specs.Prelude.{◌≡◌, ◌⊎◌, ℕ, ℤ, ◌<◌, true, false, Decides, List, length, Contains}
use Rattle.std.specs.FinMap.{entries, keys}
use Rattle.std.specs.List.Sorted.{IsStrictlySortedBy}
use Rattle.std.specs.Ordering.{nat_cmp}
use Rattle.operation_graph.specs.Graphs.{Digraph, HasEdge}
use Rattle.satisfaction.specs.declared.nodes.WaitState.{WaitState}
use Rattle.plan_checks.specs.plan_changes.specs.Markings.{DifferInMarks, WereMarked as WereMarkedBy}
use Rattle.small_requests.specs.RequestEdits.{IsEditedAt, IsRerun}
use Rattle.plan_checks.specs.start_choice.specs.Choices.{AreLatestStarts}
use Rattle.plan_drafts.specs.PlanGraphs.{IsGraphFor, StandAt}
use Rattle.plan_model.specs.Contents.{Contents}
use Rattle.plan_model.specs.Valid.{IsSound}
use Rattle.plan_model.specs.Moves.{AreLiveAlike, IsMovedAt}
use Rattle.plan_checks.specs.derived_figures.specs.Figures.{AreFigures}
use Rattle.plan_checks.specs.derived_figures.specs.declared.figures.Figures.{Figures}
use Rattle.plan_checks.specs.derived_figures.specs.WaitingChanges.{IsDeletedAt, IsSatisfiedAt}
use Rattle.plan_checks.specs.derived_figures.specs.WaitStates.{AreWaitStates}
use Rattle.plan_records.specs.declared.What.{What}
use Rattle.small_requests.specs.Revisions.{HasPlaceFor, IsRevisionFor, PutsBack, with_facilities, written}
use Rattle.small_requests.specs.declared.edits.Edit.{Edit}
use Rattle.small_requests.specs.declared.revisions.Revision.{Revision}
use Rattle.plan_checks.specs.derived_figures.specs.TakingsBefore.{WereMarked}

-- marks and flags change at these places, ascending, where these markings stood, and nowhere else, and the same operations are deleted; none of them was satisfied, or what follows one of them is one of them or deleted
pub record IsEditOf (P Q : Contents) (e : Edit) : Type 0 where
  pub moved : IsMovedAt P Q e.places.items
  pub alike : AreLiveAlike P Q
  pub marked : WereMarked P e.places.items e.marks.items
  pub ascend : IsStrictlySortedBy nat_cmp e.places.items
  pub within : (i : ℕ) → Contains e.places.items i → i < length (entries P.operations)
  pub unsatisfied : e.is_rerun ≡ false → (i : ℕ) → Contains e.places.items i → ¬ IsSatisfiedAt P i
  pub follow : e.is_rerun ≡ true → (g : Digraph) → IsGraphFor P g → (i j : ℕ) → Contains e.places.items i → HasEdge g i j → Contains e.places.items j ⊎ IsDeletedAt P j

-- it was noted of what the request edits: where that stands, by its keys and markings, and what is written there
pub record IsNotedEdit (P : Contents) (w : What) (e : Edit) : Type 0 where
  pub at : IsEditedAt P w e.places.items
  pub stand : StandAt (keys P.operations) e.places.items e.keys.items
  pub were : WereMarkedBy P e.keys.items e.marks.items
  pub writes : IsRevisionFor P w e.revision
  pub rerun : Decides e.is_rerun (IsRerun w)

-- what the plan holds once the edit is written
abbrev pub edited : Edit → Contents → Contents
edited e P = written e.keys.items e.revision P

-- it may be written to the plan, which is sound before and then, and be taken back
pub record IsEditFor (P : Contents) (e : Edit) : Type 0 where
  pub sound : IsSound P
  pub sound_after : IsSound (edited e P)
  pub edit : IsEditOf P (edited e P) e
  pub has_place : HasPlaceFor P e.revision
  pub remarks : DifferInMarks (with_facilities e.revision P) (edited e P) e.keys.items
  pub marked : WereMarkedBy P e.keys.items e.marks.items

-- the edit was written to P, which made Q of it, and old is what puts back what stood beside operations
pub record WasWritten (P Q : Contents) (e : Edit) (old : Revision) : Type 0 where
  pub edit : IsEditFor P e
  pub puts_back : PutsBack P e.revision old
  pub after : Q ≡ edited e P

-- the edit made Q of P, which has this graph, and of which this is kept
pub record IsKeptBefore (P Q : Contents) (e : Edit) (g : Digraph) (before : List WaitState) : Type 0 where
  pub edit : IsEditOf P Q e
  pub graph : IsGraphFor P g
  pub wait_states : AreWaitStates P before

-- the edit made Q of P, both sound; P has this graph, these latest starts and these figures
pub record WasEdited (P Q : Contents) (e : Edit) (g : Digraph) (starts : List ℤ) (f : Figures) : Type 0 where
  pub sound : IsSound P
  pub sound_after : IsSound Q
  pub edit : IsEditOf P Q e
  pub after : Q ≡ edited e P
  pub graph : IsGraphFor P g
  pub latest : AreLatestStarts P starts
  pub figures : AreFigures P f

-- each of these places is below n
abbrev pub AreBelow : ℕ → List ℕ → Type 0
AreBelow n places = (i : ℕ) → Contains places i → i < n

-- places of a plan, ascending
pub record ArePlacesIn (P : Contents) (places : List ℕ) : Type 0 where
  pub ascend : IsStrictlySortedBy nat_cmp places
  pub within : (i : ℕ) → Contains places i → i < length (entries P.operations)

-- places of a plan, ascending, with these among them
pub record ArePlacesWith (P : Contents) (some all : List ℕ) : Type 0 where
  pub ascend : IsStrictlySortedBy nat_cmp all
  pub within : (i : ℕ) → Contains all i → i < length (entries P.operations)
  pub among : (i : ℕ) → Contains some i → Contains all i
