-- Entries of operations, whether or not these are ready.
use Rattle.std.specs.Prelude.{◌≡◌, ℕ, ◌<◌, List, Some, All, length, map, slice_get}
use Rattle.std.specs.FinMap.{entries, keys}
use Rattle.status_rules.specs.declared.Status.{Status}
use Rattle.ready_list.specs.Entries.{ReadyEntries}
use Rattle.ready_list.specs.declared.entry.ReadyEntry.{ReadyEntry}
use Rattle.plan_model.specs.Contents.{Contents}
use Rattle.start_choice.specs.ReadyItems.{IsEntryIn}
use Rattle.derived_figures.specs.ByStatuses.{AreEntriesBy, HasRoomForAll}

-- the entry of the operation at this place of the plan
abbrev pub IsEntryAt : Contents → ℕ → ReadyEntry → Type 0
IsEntryAt P i e = IsEntryIn P e × (slice_get (keys P.operations) i ≡ Some e.key.op)

-- one entry for each of these places, that of the operation there
pub record AreEntriesAt (P : Contents) (places : List ℕ) (es : List ReadyEntry) : Type 0 where
  pub size : length es ≡ length places
  pub each : (k i : ℕ) (e : ReadyEntry) → slice_get places k ≡ Some i → slice_get es k ≡ Some e → IsEntryAt P i e

-- these statuses may be written at their places, each of which has the entry of its operation: the ready list goes by those that stand there, and has room for all
pub record CanBeRelisted (P : Contents) (statuses : List Status) (ready : ReadyEntries) (to : List (ℕ × Status)) (es : List ReadyEntry) : Type 0 where
  pub size : length statuses ≡ length (entries P.operations)
  pub within : All (λ value. value.0 < length statuses) to
  pub entries_there : AreEntriesAt P (map (λ value. value.0) to) es
  pub listed : AreEntriesBy P statuses ready.entries
  pub room : HasRoomForAll P ready
