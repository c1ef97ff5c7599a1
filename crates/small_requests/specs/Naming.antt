-- What is named, and what is kept of a plan on the way there.
use Rattle.std.specs.Prelude.{◌≡◌, ◌⊎◌, ◌+◌, ◌≤◌, ℕ, List, Some, length}
use Rattle.small_requests.specs.RequestEdits.{ArePlacesOf}
use Rattle.plan_checks.specs.start_choice.specs.Choices.{AreReadyEntries}
use Rattle.plan_model.specs.Contents.{Contents}
use Rattle.plan_model.specs.Ready.{IsChosen, named}
use Rattle.plan_model.specs.Valid.{IsSound}
use Rattle.small_requests.specs.StepLooks.{AreBoth}
use Rattle.plan_checks.specs.derived_figures.specs.UnknownPlaces.{unknown_places}
use Rattle.plan_checks.specs.derived_figures.specs.Entries.{AreEntriesAt}
use Rattle.plan_rows.specs.Notes.{AreNotes, IsNotedStep, operations_noted}
use Rattle.plan_rows.specs.Sources.{IsSource}
use Rattle.plan_rows.specs.declared.notes.FacilityChange.{FacilityChange}
use Rattle.plan_rows.specs.declared.notes.Notes.{Notes}
use Rattle.plan_rows.specs.declared.row_sources.RowSource.{RowSource}
use Rattle.small_requests.specs.Columns.{AreAllocationsOf}
use Rattle.small_requests.specs.FigureChanges.{HasColumnsAt}
use Rattle.small_requests.specs.Touched.{IsTouchedAt}
use Rattle.small_requests.specs.declared.named_steps.SmallStep.{SmallStep}
use Rattle.small_requests.specs.declared.namings.Naming.{Naming}
use Rattle.small_requests.specs.declared.step_notes.StepNotes.{StepNotes}
use Rattle.ready_list.specs.declared.entry.ReadyEntry.{ReadyEntry}

-- this is named at m of the sound plan P, at these places; what is given out and held is so once it is
pub record IsNaming (P : Contents) (m : ℕ) (n : Naming) : Type 0 where
  pub sound : IsSound P
  pub chosen : IsChosen P m n.named.items
  pub places : ArePlacesOf P n.named.items n.places.items
  pub allocations : AreAllocationsOf (named n.named.items P) n.allocations

-- they note a source that holds R
pub record AreNotesOf (R : Contents) (b : FacilityChange) (touched : List ℕ) (notes : Notes) : Type 0 where
  pub source : RowSource
  pub is_source : IsSource source
  pub holds : source.contents.now ≡ R
  pub noted : AreNotes source b touched notes

-- they note a step from a plan that holds P to one that holds R, whatever is the source of the first
abbrev pub AreStepNotes : Contents → Contents → Notes → Type 0
AreStepNotes P R notes = (before : RowSource) → IsSource before → before.contents.now ≡ P → IsNotedStep (Some before) R notes

-- the rows and the columns of the plan that holds R are noted at these places
pub record IsNotedOf (R : Contents) (b : FacilityChange) (touched : List ℕ) (n : StepNotes) : Type 0 where
  pub notes : AreNotesOf R b touched n.notes
  pub all_noted : operations_noted n.notes ≡ length touched
  pub columns : HasColumnsAt R touched n.columns

-- this is named at m of the plan that holds Q, and noted of it then at the places that were moved and those where it is named; looks went from `before` to `after`: one for each entry that is ready, one at each place where it is named that wasn't moved, and one at each that is noted
pub record IsStepOf (Q : Contents) (m : ℕ) (moved : List ℕ) (b : FacilityChange) (before after : ℕ) (s : SmallStep) : Type 0 where
  pub chosen : IsChosen Q m s.named.items
  pub places : List ℕ
  pub are_places : ArePlacesOf Q s.named.items places
  pub at_places : IsTouchedAt Q (named s.named.items Q) places
  pub touched : List ℕ
  pub joined : AreBoth moved places touched
  pub notes : AreNotesOf (named s.named.items Q) b touched s.notes
  pub columns : HasColumnsAt (named s.named.items Q) touched s.figure_change.columns
  pub entries : AreEntriesAt (named s.named.items Q) touched s.figure_change.entries.items
  pub allocations : AreAllocationsOf (named s.named.items Q) s.figure_change.allocations
  pub all_noted : operations_noted s.notes ≡ length touched
  pub asked : List ReadyEntry
  pub are_asked : AreReadyEntries Q asked
  pub most : after ≤ before + length asked + length (unknown_places moved places) + length touched
  pub fewest : (18446744073709551615 ≤ after) ⊎ (before + length touched ≤ after)
