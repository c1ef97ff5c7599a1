-- Figures moved on by such a change.
use Rattle.std.proofs.Common.{◌≡◌, sym, subst}
use Rattle.plan_model.specs.Contents.{Contents}
use Rattle.plan_checks.specs.derived_figures.specs.Figures.{AreFigures}
use Rattle.plan_checks.specs.derived_figures.specs.declared.figures.Figures.{Figures}
use Rattle.plan_checks.specs.derived_figures.specs.Entries.{CanBeRelisted}
use Rattle.small_requests.proofs.Agreeing.{leads_on}
use Rattle.small_requests.proofs.ColumnParts.{are_columns, are_figures, columns_alike, is_list}
use Rattle.small_requests.proofs.Listing.{goes_after, goes_by, list_is, relistable}
use Rattle.small_requests.specs.Columns.{AreAlike, GoesByStatuses, MakesOf, figures_of}
use Rattle.small_requests.specs.FigureChanges.{IsFigureChange}
use Rattle.small_requests.specs.declared.columns.FigureColumns.{FigureColumns}
use Rattle.small_requests.specs.declared.columns.Allocations.{Allocations}
use Rattle.small_requests.specs.declared.figure_changes.FigureChange.{FigureChange}
use Rattle.ready_list.specs.Entries.{ReadyEntries}

module _ (P R : Contents) (f : Figures) (are : AreFigures P f) (x : FigureChange) (is : IsFigureChange P R x) (l : FigureColumns) (r : ReadyEntries) (s : Allocations) (parts : figures_of l r s ≡ f) where
  -- the parts are those of the plan before
  were : AreFigures P (figures_of l r s)
  were = subst (AreFigures P) (sym parts) are

  -- what the change has leads to the columns then
  pub leads_then : MakesOf x.columns l is.columns.columns
  leads_then = leads_on P R is.sound.valid is.sound_after.valid is.touched is.at_touched l is.columns.columns (are_columns P l r s were) is.columns.are x.columns is.columns.snapshot

  goes_then : GoesByStatuses R l.statuses.items r
  goes_then =
      goes_after P R is.at_touched.moved.places is.at_touched.moved.moved is.starts is.before is.latest l.statuses.items r
      (goes_by P is.sound l.statuses.items were.statuses r is.starts is.before (is_list P l r s were))

  -- and its entries lead the ready list
  pub relistable_then : CanBeRelisted R l.statuses.items r x.columns.statuses.items x.entries.items
  relistable_then = relistable R l.statuses.items r goes_then x.columns.statuses.items is.columns.columns.statuses.items leads_then.statuses is.touched is.columns.snapshot.in_order x.entries.items is.entries

  -- what is made so is of the plan then
  pub figures_then : (m : FigureColumns) → AreAlike m is.columns.columns → (q : ReadyEntries) → GoesByStatuses R m.statuses.items q → AreFigures R (figures_of m q x.allocations)
  figures_then m alike q goes =
      let now = columns_alike R m is.columns.columns alike is.columns.are in
      are_figures R m q x.allocations now (list_is R is.sound_after m.statuses.items now.statuses q goes) is.allocations
