-- What a step changes in the figures of a plan.
use Rattle.std.specs.Prelude.{ℕ, ℤ, List}
use Rattle.plan_checks.specs.start_choice.specs.Choices.{AreLatestStarts}
use Rattle.plan_model.specs.Contents.{Contents}
use Rattle.plan_model.specs.Valid.{IsSound}
use Rattle.plan_checks.specs.derived_figures.specs.Entries.{AreEntriesAt}
use Rattle.small_requests.specs.Columns.{AreColumnsOf, IsSnapshotOf, AreAllocationsOf}
use Rattle.small_requests.specs.Touched.{IsTouchedAt}
use Rattle.small_requests.specs.declared.columns.FigureColumns.{FigureColumns}
use Rattle.small_requests.specs.declared.snapshots.Snapshot.{Snapshot}
use Rattle.small_requests.specs.declared.figure_changes.FigureChange.{FigureChange}

-- it has what columns of the plan that holds R have at these places
pub record HasColumnsAt (R : Contents) (places : List ℕ) (x : Snapshot) : Type 0 where
  pub columns : FigureColumns
  pub are : AreColumnsOf R columns
  pub snapshot : IsSnapshotOf R places columns x

-- from the sound plan P it leads to the sound plan R, both of which have these latest starts: it has the figures of R, and the entries of operations, at all places that are touched on the way
pub record IsFigureChange (P R : Contents) (s : FigureChange) : Type 0 where
  pub sound : IsSound P
  pub sound_after : IsSound R
  pub starts : List ℤ
  pub before : AreLatestStarts P starts
  pub latest : AreLatestStarts R starts
  pub touched : List ℕ
  pub at_touched : IsTouchedAt P R touched
  pub columns : HasColumnsAt R touched s.columns
  pub entries : AreEntriesAt R touched s.entries.items
  pub allocations : AreAllocationsOf R s.allocations
