use Rattle.std.proofs.Common.{sym, subst}
use Rattle.plan_checks.specs.derived_figures.specs.Figures.{AreFigures}
use Rattle.plan_checks.specs.derived_figures.specs.Entries.{CanBeRelisted}
use Rattle.small_requests.proofs.ChangedFigures.{figures_then, leads_then, relistable_then}
use Rattle.small_requests.proofs.figure_changes.changed_figures.Goals as goal

pub put_snapshot-requires-clause-makes : goal.put_snapshot-requires-clause-makes
put_snapshot-requires-clause-makes c =
    let (P, R, are, is) = c.requires in
    (is.columns.columns, leads_then P R c.args.figures are c.args.figure_change is c.parts_of-columns.result.0 c.parts_of-columns.result.1 c.parts_of-columns.result.2 c.parts_of-columns.ensures)

pub put_snapshot-requires-clause-listed : goal.put_snapshot-requires-clause-listed
put_snapshot-requires-clause-listed c =
    let (P, R, are, is) = c.requires in
    let l = c.parts_of-columns.result.0 in
    let r = c.parts_of-columns.result.1 in (
      R,
      subst (CanBeRelisted R l.statuses.items r c.args.figure_change.columns.statuses.items) (sym c.deref.ensures.value)
          (relistable_then P R c.args.figures are c.args.figure_change is l r c.parts_of-columns.result.2 c.parts_of-columns.ensures),
    )

pub returns : goal.returns
returns c P R are is =
    let l = c.parts_of-columns.result.0 in
    let r = c.parts_of-columns.result.1 in
    let s = c.parts_of-columns.result.2 in
    let x = c.args.figure_change in
    let parts = c.parts_of-columns.ensures in
    let alike = c.put_snapshot.ensures.alike is.columns.columns (leads_then P R c.args.figures are x is l r s parts) in
    let can = subst (CanBeRelisted R l.statuses.items r x.columns.statuses.items) (sym c.deref.ensures.value) (relistable_then P R c.args.figures are x is l r s parts) in
    subst (AreFigures R) (sym c.figures_with.ensures)
    (figures_then P R c.args.figures are x is l r s parts c.put_snapshot.new.columns alike c.put_snapshot.new.ready (c.put_snapshot.ensures.ready R can))
