-- What goes by the statuses of a plan's operations, whether or not these are the right ones: the numbers of occurrences' operations, and the ready list.
use Rattle.std.specs.Prelude.{◌≡◌, ◌⊎◌, ℕ, ◌+◌, ◌<◌, ◌≤◌, true, List, Some, length, slice_get, Contains}
use Rattle.std.specs.FinMap.{entries, keys}
use Rattle.plan_basics.specs.declared.keys.OccKey.{OccKey}
use Rattle.plan_basics.specs.declared.keys.OpKey.{OpKey}
use Rattle.status_rules.specs.Classes.{is_ready}
use Rattle.status_rules.specs.declared.Counts.{Counts}
use Rattle.status_rules.specs.declared.Status.{Status}
use Rattle.status_rules.specs.declared.Status.TheVariants as status
use Rattle.ready_list.specs.Entries.{IsInOrder, ReadyEntries}
use Rattle.ready_list.specs.declared.entry.ReadyEntry.{ReadyEntry}
use Rattle.plan_model.specs.Contents.{Contents}
use Rattle.start_choice.specs.plan_drafts.specs.Places.{AreByPlace}
use Rattle.start_choice.specs.plan_records.specs.Rows.{IsCount}
use Rattle.start_choice.specs.ReadyItems.{IsEntryIn}

-- by these statuses, in the order of the keys, o has this one
abbrev pub HasListed : List OpKey → List Status → OpKey → Status → Type 0
HasListed ks statuses o s = (i : ℕ) × (slice_get ks i ≡ Some o) × (slice_get statuses i ≡ Some s)

-- ---- numbers of operations

-- by them o belongs to the occurrence and has a status of this kind
abbrev pub BelongsBy : List OpKey → List Status → OccKey → (Status → Type 0) → OpKey → Type 0
BelongsBy ks statuses c kind o = (o.occurrence ≡ c) × ((s : Status) × HasListed ks statuses o s × kind s)

-- it counts as started: it is started or interrupted
abbrev pub CountsAsStarted : Status → Type 0
CountsAsStarted s = (s ≡ status.Started) ⊎ (s ≡ status.Interrupted)

-- the numbers of the occurrence's operations by these statuses: all, and those of a status
pub record IsTallyBy (ks : List OpKey) (statuses : List Status) (c : OccKey) (n : Counts) : Type 0 where
  pub all : IsCount (BelongsBy ks statuses c (λ s. Unit {0})) n.all
  pub deleted : IsCount (BelongsBy ks statuses c (λ s. s ≡ status.Deleted)) n.deleted
  pub error : IsCount (BelongsBy ks statuses c (λ s. s ≡ status.Error)) n.error
  pub undecided : IsCount (BelongsBy ks statuses c (λ s. s ≡ status.Undecided)) n.undecided
  pub complete : IsCount (BelongsBy ks statuses c (λ s. s ≡ status.Complete)) n.complete
  pub started : IsCount (BelongsBy ks statuses c CountsAsStarted) n.started

-- the numbers of each occurrence by these statuses, in key order
abbrev pub AreTalliesBy : Contents → List Status → List Counts → Type 0
AreTalliesBy P statuses tallies = AreByPlace (entries P.occurrences) tallies (IsTallyBy (keys P.operations) statuses)

-- an operation of the status is among those counted
pub record CountsOne (s : Status) (n : Counts) : Type 0 where
  pub all : 0 < n.all
  pub deleted : s ≡ status.Deleted → 0 < n.deleted
  pub error : s ≡ status.Error → 0 < n.error
  pub undecided : s ≡ status.Undecided → 0 < n.undecided
  pub complete : s ≡ status.Complete → 0 < n.complete
  pub started : CountsAsStarted s → 0 < n.started

-- ---- the ready list

-- by these statuses o is arriving or ready
abbrev pub IsReadyBy : List OpKey → List Status → OpKey → Type 0
IsReadyBy ks statuses o = (s : Status) × HasListed ks statuses o s × (is_ready s ≡ true)

-- the entries of what is ready by these statuses, in order
pub record AreEntriesBy (P : Contents) (statuses : List Status) (es : List ReadyEntry) : Type 0 where
  pub in_order : IsInOrder es
  pub each : (e : ReadyEntry) → Contains es e → IsEntryIn P e × IsReadyBy (keys P.operations) statuses e.key.op
  pub every : (o : OpKey) → IsReadyBy (keys P.operations) statuses o → (e : ReadyEntry) × Contains es e × (e.key.op ≡ o)

-- with those that there are, there is room for one of each operation
abbrev pub HasRoomForAll : Contents → ReadyEntries → Type 0
HasRoomForAll P ready = length (entries P.operations) ≤ length ready.entries + ready.room

-- ---- both

-- there is a status for each operation, and the numbers and the ready list go by these
pub record AreInLine (P : Contents) (ss : List Status) (ns : List Counts) (es : List ReadyEntry) : Type 0 where
  pub size : length ss ≡ length (entries P.operations)
  pub tallies : AreTalliesBy P ss ns
  pub ready : AreEntriesBy P ss es
