-- The figures of a plan in parts, and snapshots of what is kept by place.
use Rattle.std.specs.Prelude.{◌≡◌, ℕ, ◌+◌, ◌≤◌, List, length, map, Contains}
use Rattle.std.specs.FinMap.{entries}
use Rattle.plan_checks.specs.start_choice.specs.Choices.{AreGivenOut, AreHeldIn, AreReadyEntries}
use Rattle.plan_drafts.specs.Places.{AreStatuses}
use Rattle.plan_model.specs.Contents.{Contents}
use Rattle.plan_checks.specs.derived_figures.specs.declared.figures.Figures.{Figures}
use Rattle.plan_checks.specs.derived_figures.specs.WaitStates.{AreWaitStates}
use Rattle.plan_checks.specs.derived_figures.specs.ByStatuses.{AreEntriesBy, HasRoomForAll}
use Rattle.plan_rows.specs.Touched.{HasOneOf}
use Rattle.plan_checks.specs.plan_status.specs.Standings.{AreStandings, AreTallies}
use Rattle.small_requests.specs.Values.{AreValuesAt, LeadsTo}
use Rattle.small_requests.specs.declared.columns.FigureColumns.{FigureColumns}
use Rattle.small_requests.specs.declared.columns.Allocations.{Allocations}
use Rattle.small_requests.specs.declared.snapshots.Snapshot.{Snapshot}
use Rattle.ready_list.specs.Entries.{ReadyEntries}
use Rattle.status_rules.specs.declared.Status.{Status}

-- the figures of which these are the parts
abbrev pub figures_of : FigureColumns → ReadyEntries → Allocations → Figures
figures_of l r s = record { wait_states = l.wait_states; standings = l.standings; statuses = l.statuses; tallies = l.tallies; given = s.given; holdings = s.holdings; ready = r }

-- the columns are this plan's
pub record AreColumnsOf (P : Contents) (l : FigureColumns) : Type 0 where
  pub wait_states : AreWaitStates P l.wait_states.items
  pub standings : AreStandings P l.standings.items
  pub statuses : AreStatuses P l.statuses.items
  pub tallies : AreTallies P l.tallies.items

-- so is what is given out and held
pub record AreAllocationsOf (P : Contents) (s : Allocations) : Type 0 where
  pub given : AreGivenOut P (entries P.workstations) s.given.items
  pub holders : AreHeldIn P s.holdings.held

-- so is the ready list, which has room for an entry of each operation
pub record IsReadyListOf (P : Contents) (r : ReadyEntries) : Type 0 where
  pub listed : AreReadyEntries P r.entries
  pub room : length (entries P.operations) ≤ length r.entries + r.room

-- the ready list goes by these statuses of the plan's operations, whether or not these are the right ones, and has room for an entry of each
pub record GoesByStatuses (P : Contents) (statuses : List Status) (r : ReadyEntries) : Type 0 where
  pub size : length statuses ≡ length (entries P.operations)
  pub listed : AreEntriesBy P statuses r.entries
  pub room : HasRoomForAll P r

-- both columns have the same at each place
pub record AreAlike (l m : FigureColumns) : Type 0 where
  pub wait_states : l.wait_states.items ≡ m.wait_states.items
  pub standings : l.standings.items ≡ m.standings.items
  pub statuses : l.statuses.items ≡ m.statuses.items
  pub tallies : l.tallies.items ≡ m.tallies.items

-- it has what the columns have at these places of operations of the plan, the statuses in their order, and at those of their occurrences
pub record IsSnapshotOf (P : Contents) (places : List ℕ) (l : FigureColumns) (x : Snapshot) : Type 0 where
  pub wait_states : AreValuesAt l.wait_states.items (Contains places) x.wait_states.items
  pub standings : AreValuesAt l.standings.items (Contains places) x.standings.items
  pub statuses : AreValuesAt l.statuses.items (Contains places) x.statuses.items
  pub in_order : map (λ e. e.0) x.statuses.items ≡ places
  pub tallies : AreValuesAt l.tallies.items (HasOneOf P places) x.tallies.items

-- to write it into the one columns makes the others of them
pub record MakesOf (x : Snapshot) (from to : FigureColumns) : Type 0 where
  pub wait_states : LeadsTo x.wait_states.items from.wait_states.items to.wait_states.items
  pub standings : LeadsTo x.standings.items from.standings.items to.standings.items
  pub statuses : LeadsTo x.statuses.items from.statuses.items to.statuses.items
  pub tallies : LeadsTo x.tallies.items from.tallies.items to.tallies.items

-- they have a row for each operation and each occurrence of the plan
pub record AreSizedBy (P : Contents) (l : FigureColumns) : Type 0 where
  pub wait_states : length l.wait_states.items ≡ length (entries P.operations)
  pub standings : length l.standings.items ≡ length (entries P.operations)
  pub statuses : length l.statuses.items ≡ length (entries P.operations)
  pub tallies : length l.tallies.items ≡ length (entries P.occurrences)
