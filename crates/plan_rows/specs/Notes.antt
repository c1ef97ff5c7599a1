-- The rows that are noted of a plan as a step leaves it, and what they say of the plan before.
use Rattle.std.specs.Prelude.{◌≡◌, ◌<◌, ℕ, Bool, true, false, List, length, slice_get, Contains, Option, Some, Result}
use Rattle.std.specs.FinMap.{entries}
use Rattle.std.specs.List.{AllZip}
use Rattle.plan_model.specs.Contents.{Contents}
use Rattle.plan_records.specs.declared.Changes.{Changes}
use Rattle.plan_records.specs.declared.PlanRow.{PlanRow}
use Rattle.plan_records.specs.declared.PlanRow.TheVariants as row
use Rattle.plan_rows.specs.Rows.{all_intervals, keyed_occurrences, keyed_operations, rows_of}
use Rattle.plan_rows.specs.Sources.{IsSource, contents_if_any}
use Rattle.plan_rows.specs.Tables.{AddsChanges}
use Rattle.plan_rows.specs.Touched.{AreOccurrencesOf, AreTouched, KeepsQuantities, IsFacilityChange}
use Rattle.plan_rows.specs.declared.noted_rows.NotedRow.{NotedRow}
use Rattle.plan_rows.specs.declared.notes.NotedFacilities.{NotedFacilities}
use Rattle.plan_rows.specs.declared.notes.NotedFacilities.TheVariants as noted
use Rattle.plan_rows.specs.declared.notes.Notes.{Notes}
use Rattle.plan_rows.specs.declared.row_sources.RowSource.{RowSource}
use Rattle.plan_rows.specs.declared.notes.FacilityChange.{FacilityChange}
use Rattle.plan_rows.specs.declared.notes.FacilityChange.TheVariants as facilities

-- it notes the row that stands at i among these
abbrev pub IsNotedAt : List PlanRow → ℕ → NotedRow → Type 0
IsNotedAt rows i note = (note.place ≡ i) × (slice_get rows i ≡ Some note.row)

-- they note the rows at these places, in order
abbrev pub AreNotedAt : List PlanRow → List ℕ → List NotedRow → Type 0
AreNotedAt rows places notes = AllZip (IsNotedAt rows) places notes

-- each of them notes a row of a table of this length
abbrev pub AreWithin : ℕ → List NotedRow → Type 0
AreWithin n notes = (note : NotedRow) → Contains notes note → note.place < n

-- from notes of the occurrences of the touched operations, as they are in any plan that may follow that of the source, d has what changes in their table beside what c has
abbrev pub AddsNotedOccurrences : {E : Type 0} → RowSource → List NotedRow → Result (Unit {0}) E → Changes → Changes → Type 0
AddsNotedOccurrences s notes r c d = (after : RowSource) (touched places : List ℕ)
    → IsSource after → AreTouched (Some s) (Some after) touched → AreOccurrencesOf after.contents.now touched places
    → AreNotedAt (rows_of (keyed_occurrences after)) places notes → AddsChanges 4 5 (Some s) (Some after) r c d

-- so from notes of the touched operations themselves
abbrev pub AddsNotedOperations : {E : Type 0} → RowSource → List NotedRow → Result (Unit {0}) E → Changes → Changes → Type 0
AddsNotedOperations s notes r c d = (after : RowSource) (touched : List ℕ)
    → IsSource after → AreTouched (Some s) (Some after) touched
    → AreNotedAt (rows_of (keyed_operations after)) touched notes → AddsChanges 5 6 (Some s) (Some after) r c d

-- it has the table that may differ beside operations, if one may
abbrev pub AreNotedFacilities : Contents → FacilityChange → NotedFacilities → Type 0
AreNotedFacilities Q facilities.Nothing noted.Nothing = Unit {0}
AreNotedFacilities Q facilities.Resources (noted.Resources rows) = rows.items ≡ entries Q.resources
AreNotedFacilities Q facilities.Workstations (noted.Intervals rows) = rows.items ≡ all_intervals (entries Q.workstations)
AreNotedFacilities Q b n = ⊥

-- they note the rows of these operations, of their occurrences, and what is beside
pub record AreNotes (s : RowSource) (b : FacilityChange) (touched : List ℕ) (notes : Notes) : Type 0 where
  pub operations : AreNotedAt (rows_of (keyed_operations s)) touched notes.operations.items
  pub places : List ℕ
  pub of_operations : AreOccurrencesOf s.contents.now touched places
  pub occurrences : AreNotedAt (rows_of (keyed_occurrences s)) places notes.occurrences.items
  pub facilities : AreNotedFacilities s.contents.now b notes.facilities

-- how many rows of operations they note
abbrev pub operations_noted : Notes → ℕ
operations_noted notes = length notes.operations.items

-- it is a row of the table of operations
abbrev pub is_operation : PlanRow → Bool
is_operation (row.Operation r) = true
is_operation _ = false

-- they were noted of a plan that holds Q, and no more differs between the plan before and that one than what they note
pub record IsNotedStep (before : Option RowSource) (Q : Contents) (notes : Notes) : Type 0 where
  pub after : RowSource
  pub source : IsSource after
  pub holds : after.contents.now ≡ Q
  pub facilities : FacilityChange
  pub touched : List ℕ
  pub stays : IsFacilityChange facilities (contents_if_any before) after.contents.now
  pub among : AreTouched before (Some after) touched
  pub noted : AreNotes after facilities touched notes

-- beside operations no more differs from P to Q than the table that it has, whose rows are those of Q
abbrev pub NotesFacilities : Contents → Contents → NotedFacilities → Type 0
NotesFacilities P Q noted.Nothing = (Q.workstations ≡ P.workstations) × (Q.resources ≡ P.resources) × (Q.pairs ≡ P.pairs)
NotesFacilities P Q (noted.Resources rows) = (Q.workstations ≡ P.workstations) × (Q.pairs ≡ P.pairs) × KeepsQuantities P Q × (rows.items ≡ entries Q.resources)
NotesFacilities P Q (noted.Intervals rows) = (Q.resources ≡ P.resources) × (Q.pairs ≡ P.pairs) × (rows.items ≡ all_intervals (entries Q.workstations))
