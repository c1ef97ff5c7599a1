-- What is named and noted after an edit is a step from the plan before.
use Rattle.std.proofs.Common.{◌≡◌, ◌⊎◌, refl, sym, ap, subst, arith, ℕ, ℤ, ◌+◌, ◌≤◌, List, length, Vec, Global, Result, Ok, Err, IfOk}
use Rattle.plan_basics.specs.declared.Refusal.{Refusal}
use Rattle.plan_basics.specs.declared.keys.OpKey.{OpKey}
use Rattle.small_requests.proofs.OneFrame.{frame_stays}
use Rattle.small_requests.specs.RequestEdits.{ArePlacesOf}
use Rattle.operation_graph.specs.Graphs.{Digraph}
use Rattle.plan_checks.specs.start_choice.specs.Choices.{AreLatestStarts}
use Rattle.plan_checks.specs.plan_laws.proofs.Kept.{choice_keeps_sound}
use Rattle.plan_model.specs.Contents.{Contents}
use Rattle.plan_model.specs.Ready.{IsChosen, named}
use Rattle.plan_checks.specs.derived_figures.specs.Figures.{KeepsFrame}
use Rattle.plan_checks.specs.derived_figures.proofs.StatusesKept.{remarked_by}
use Rattle.plan_checks.specs.derived_figures.proofs.Read.{noted_after}
use Rattle.plan_checks.specs.derived_figures.specs.UnknownPlaces.{unknown_places}
use Rattle.plan_checks.specs.derived_figures.specs.Entries.{AreEntriesAt}
use Rattle.plan_rows.specs.Notes.{operations_noted}
use Rattle.plan_rows.specs.Touched.{IsFacilityChange}
use Rattle.plan_rows.specs.declared.notes.FacilityChange.{FacilityChange}
use Rattle.small_requests.proofs.ColumnParts.{are_columns, columns_alike, is_list}
use Rattle.small_requests.proofs.Looked.{from_before, touched_beside}
use Rattle.small_requests.proofs.MovedColumns.{then_known}
use Rattle.small_requests.proofs.NamedFigures.{named_touched, naming_alike, naming_moved}
use Rattle.small_requests.proofs.SmallSteps.{keeps_frame, step_notes, touched_by_both}
use Rattle.small_requests.specs.Columns.{AreAlike, AreColumnsOf, AreAllocationsOf, IsReadyListOf, figures_of}
use Rattle.small_requests.specs.Edits.{WasEdited}
use Rattle.small_requests.specs.Effects.{AreNamingEffects}
use Rattle.small_requests.specs.Groundworks.{HasGroundwork, IsGroundwork}
use Rattle.small_requests.specs.Naming.{AreNotesOf, AreStepNotes, IsStepOf}
use Rattle.small_requests.specs.FigureChanges.{HasColumnsAt, IsFigureChange}
use Rattle.small_requests.specs.Touched.{IsTouchedAt}
use Rattle.small_requests.specs.declared.columns.FigureColumns.{FigureColumns}
use Rattle.small_requests.specs.declared.columns.Allocations.{Allocations}
use Rattle.small_requests.specs.declared.edits.Edit.{Edit}
use Rattle.small_requests.specs.declared.naming_effects.NamingEffects.{NamingEffects}
use Rattle.small_requests.specs.declared.named_steps.SmallStep.{SmallStep}
use Rattle.small_requests.specs.declared.groundwork.Groundwork.{Groundwork}
use Rattle.ready_list.specs.Entries.{ReadyEntries}
use Rattle.ready_list.specs.declared.entry.ReadyEntry.{ReadyEntry}

module _ (Q : Contents) (m : ℕ) (edited : List ℕ) (l : FigureColumns) (f : NamingEffects) (is : AreNamingEffects Q m edited l f) (are : AreColumnsOf Q l) (starts : List ℤ) (latest : AreLatestStarts Q starts) where
  abbrev os : List OpKey
  os = f.naming.named.items

  abbrev places : List ℕ
  places = f.naming.places.items

  -- the entries are those of the plan in which it is named
  pub entries_named : AreEntriesAt (named os Q) f.touched.items f.entries.items
  entries_named =
      let moved = naming_moved Q m os is.naming.chosen places is.naming.places in
      noted_after Q (named os Q) places moved starts latest ((frame_stays Q (named os Q) places moved (naming_alike Q m os is.naming.chosen places is.naming.places)).latest starts latest) f.touched.items f.entries.items is.entries

  -- what follows, with what was noted then, is a step
  pub step_of : (ready : ReadyEntries) → IsReadyListOf Q ready → (b : FacilityChange) (before between after : ℕ) → before ≤ between → between ≤ before + length ready.entries + length (unknown_places edited f.touched.items)
      → after ≤ between + length f.touched.items → (r : Result SmallStep Refusal)
      → IfOk r (λ s. s.named ≡ f.naming.named) → IfOk r (λ s. s.figure_change.allocations ≡ f.naming.allocations) → IfOk r (λ s. s.figure_change.entries ≡ f.entries) → IfOk r (λ s. HasColumnsAt (named os Q) f.touched.items s.figure_change.columns)
      → IfOk r (λ s. AreNotesOf (named os Q) b f.touched.items s.notes) → IfOk r (λ s. operations_noted s.notes ≡ length f.touched.items)
      → IfOk r (λ s. (18446744073709551615 ≤ after) ⊎ (between + length f.touched.items ≤ after)) → IfOk r (IsStepOf Q m edited b before after)
  step_of ready list b before between after later asked noted (Err e) named_is allocations_are entries_are columns notes all_noted least = tt
  step_of ready list b before between after later asked noted (Ok s) named_is allocations_are entries_are columns notes all_noted least =
      let same : os ≡ s.named.items = ap (λ (v : Vec OpKey Global). v.items) (sym named_is) in
      let uncounted = ap length (touched_beside edited places f.touched.items is.naming.places.ascend is.joined) in
      record {
        chosen = subst (IsChosen Q m) same is.naming.chosen;
        places = places;
        are_places = subst (λ ks. ArePlacesOf Q ks places) same is.naming.places;
        at_places = subst (λ ks. IsTouchedAt Q (named ks Q) places) same (named_touched Q m os is.naming.chosen places is.naming.places is.naming.sound l are);
        touched = f.touched.items;
        joined = is.joined;
        notes = subst (λ ks. AreNotesOf (named ks Q) b f.touched.items s.notes) same notes;
        columns = subst (λ ks. HasColumnsAt (named ks Q) f.touched.items s.figure_change.columns) same columns;
        entries = subst (λ ks. AreEntriesAt (named ks Q) f.touched.items s.figure_change.entries.items) same (subst (λ (es : Vec ReadyEntry Global). AreEntriesAt (named os Q) f.touched.items es.items) (sym entries_are) entries_named);
        allocations = subst (λ ks. AreAllocationsOf (named ks Q) s.figure_change.allocations) same (subst (λ (z : Allocations). AreAllocationsOf (named os Q) z) (sym allocations_are) is.naming.allocations);
        all_noted = all_noted;
        asked = ready.entries;
        are_asked = list.listed;
        most = omega (arith, asked, noted, uncounted);
        fewest = from_before before between (length f.touched.items) (length f.touched.items) after later refl least;
      }

-- what was worked out of an edit of P
pub worked_out : (P Q : Contents) (e : Edit) (d : Digraph) (starts : List ℤ) (l : FigureColumns) (r : ReadyEntries) (s : Allocations) → WasEdited P Q e d starts (figures_of l r s) → (m : FigureColumns) → AreAlike m l
    → (g : Groundwork) → IsGroundwork Q e.places.items m g → HasGroundwork P Q e.places.items starts m r g
worked_out P Q e d starts l r s was m alike g is = record {
  sound = was.sound;
  sound_after = was.sound_after;
  moved = was.edit.moved;
  alike = was.edit.alike;
  latest = was.latest;
  columns = columns_alike P m l alike (are_columns P l r s was.figures);
  ready = is_list P l r s was.figures;
  worked_out = is;
}

module _ (P Q : Contents) (edits : List ℕ) (starts : List ℤ) (l : FigureColumns) (r : ReadyEntries) (g : Groundwork) (has : HasGroundwork P Q edits starts l r g) (m : ℕ) (b : FacilityChange) (before after : ℕ) (s : SmallStep) (is : IsStepOf Q m g.touched.items b before after s) where
  -- no more is touched by it than its places
  pub step_touched : IsTouchedAt P (named s.named.items Q) is.touched
  step_touched =
      touched_by_both P Q m s.named.items is.chosen is.places is.are_places edits (remarked_by P Q edits has.moved) is.at_places.same g.touched.items is.touched
      has.worked_out.moved_on.touched (then_known P Q edits starts l r g has) is.joined.ascend is.joined.both

  -- the frame stays
  pub step_frame : KeepsFrame P (named s.named.items Q)
  step_frame = keeps_frame P Q m s.named.items is.chosen is.places is.are_places edits has.moved has.alike

  -- it leads from the one figures to the others
  pub step_figure_change : IsFigureChange P (named s.named.items Q) s.figure_change
  step_figure_change = record {
    sound = has.sound;
    sound_after = choice_keeps_sound Q m s.named.items has.sound_after is.chosen;
    starts = starts;
    before = has.latest;
    latest = step_frame.latest starts has.latest;
    touched = is.touched;
    at_touched = step_touched;
    columns = is.columns;
    entries = is.entries;
    allocations = is.allocations;
  }

  -- and its rows are noted
  pub step_noted : IsFacilityChange b P Q → AreStepNotes P (named s.named.items Q) s.notes
  step_noted stays = step_notes P Q s.named.items b stays step_frame.latest is.touched step_touched s.notes is.notes
