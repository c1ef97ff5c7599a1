-- A ready list that goes by statuses, and that of a plan.
use Rattle.std.proofs.Common.{◌≡◌, sym, subst, ◌∙◌, ℕ, ℤ, ◌+◌, ◌≤◌, List, length, map}
use Rattle.plan_checks.specs.start_choice.specs.Choices.{AreLatestStarts}
use Rattle.plan_drafts.specs.Places.{AreStatuses}
use Rattle.plan_model.specs.Contents.{Contents}
use Rattle.plan_model.specs.Valid.{IsSound}
use Rattle.plan_model.specs.Moves.{IsMovedAt, IsRemarkedAt}
use Rattle.plan_checks.specs.derived_figures.proofs.StatusesKept.{moved_back, remarked_by}
use Rattle.plan_checks.specs.derived_figures.proofs.Read.{entries_are, entries_by, entries_remarked}
use Rattle.plan_checks.specs.derived_figures.specs.ByStatuses.{HasRoomForAll}
use Rattle.plan_checks.specs.derived_figures.specs.Entries.{AreEntriesAt, CanBeRelisted}
use Rattle.plan_checks.specs.plan_status.proofs.LoadedRows.{its_occurrence}
use Rattle.small_requests.proofs.Overwritten.{leads_within}
use Rattle.small_requests.specs.Columns.{GoesByStatuses, IsReadyListOf}
use Rattle.small_requests.specs.Values.{LeadsTo}
use Rattle.ready_list.specs.Entries.{ReadyEntries}
use Rattle.ready_list.specs.declared.entry.ReadyEntry.{ReadyEntry}
use Rattle.status_rules.specs.declared.Status.{Status}

module _ (P : Contents) (sound : IsSound P) (statuses : List Status) (are : AreStatuses P statuses) (r : ReadyEntries) where
  -- the ready list of a plan goes by the plan's statuses
  pub goes_by : (starts : List ℤ) → AreLatestStarts P starts → IsReadyListOf P r → GoesByStatuses P statuses r
  goes_by starts latest list = record {
    size = are.size;
    listed = entries_by P sound.valid.acyclic statuses are (its_occurrence P sound.valid) starts latest r.entries list.listed;
    room = list.room;
  }

  -- and one that goes by these is the plan's
  pub list_is : GoesByStatuses P statuses r → IsReadyListOf P r
  list_is goes = record { listed = entries_are P sound.valid.acyclic statuses are r.entries goes.listed; room = goes.room }

-- it goes by them too in a plan that differs in marks and flags alone, whatever its pairs are, and has the same latest starts
pub goes_after : (P Q : Contents) (moved_at : List ℕ) → IsRemarkedAt P Q moved_at → (starts : List ℤ) → AreLatestStarts P starts → AreLatestStarts Q starts → (statuses : List Status) (r : ReadyEntries)
    → GoesByStatuses P statuses r → GoesByStatuses Q statuses r
goes_after P Q moved_at moved starts before after statuses r goes = record {
  size = goes.size ∙ sym moved.size;
  listed = entries_remarked P Q moved_at moved starts before after statuses r.entries goes.listed;
  room = subst (λ n. n ≤ length r.entries + r.room) (sym moved.size) goes.room;
}

-- so it does in the one before
pub goes_before : (P Q : Contents) (moved_at : List ℕ) → IsMovedAt P Q moved_at → (starts : List ℤ) → AreLatestStarts P starts → AreLatestStarts Q starts → (statuses : List Status) (r : ReadyEntries)
    → GoesByStatuses Q statuses r → GoesByStatuses P statuses r
goes_before P Q moved_at moved starts before after = goes_after Q P moved_at (remarked_by Q P moved_at (moved_back P Q moved_at moved)) starts after before

-- there is room for as many operations as there were
pub room_after : (P Q : Contents) (moved_at : List ℕ) → IsMovedAt P Q moved_at → (r : ReadyEntries) → IsReadyListOf P r → HasRoomForAll Q r
room_after P Q moved_at moved r list = subst (λ n. n ≤ length r.entries + r.room) (sym moved.size) list.room

-- by a snapshot's statuses and the entries at its places it can be led on
pub relistable : (P : Contents) (statuses : List Status) (r : ReadyEntries) → GoesByStatuses P statuses r → (values : List (ℕ × Status)) (to : List Status) → LeadsTo values statuses to
    → (places : List ℕ) → map (λ (e : ℕ × Status). e.0) values ≡ places → (es : List ReadyEntry) → AreEntriesAt P places es → CanBeRelisted P statuses r values es
relistable P statuses r goes values to leads places in_order es noted = record {
  size = goes.size;
  within = leads_within values statuses to leads;
  entries_there = subst (λ ps. AreEntriesAt P ps es) (sym in_order) noted;
  listed = goes.listed;
  room = goes.room;
}
