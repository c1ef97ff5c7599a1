use Rattle.std.proofs.Common.{sym, subst, IfOk}
use Rattle.plan_checks.specs.plan_changes.proofs.Answered.{if_ok}
use Rattle.plan_checks.specs.derived_figures.specs.Entries.{CanBeRelisted}
use Rattle.plan_checks.specs.start_choice.specs.Choices.{AreLatestStarts}
use Rattle.plan_model.specs.Contents.{Contents}
use Rattle.small_requests.proofs.ColumnParts.{columns_alike, makes_alike}
use Rattle.small_requests.proofs.Listing.{goes_before, goes_by, list_is, relistable}
use Rattle.small_requests.proofs.MovedColumns.{places_then}
use Rattle.small_requests.proofs.OneFrame.{frame_stays}
use Rattle.small_requests.proofs.moved_steps.moved_step.Goals as goal
use Rattle.small_requests.proofs.moved_steps.moved_step.Goals.{After-named_step-same}
use Rattle.small_requests.specs.Columns.{AreColumnsOf, IsReadyListOf, MakesOf}
use Rattle.small_requests.specs.Edits.{ArePlacesIn}
use Rattle.small_requests.specs.Naming.{IsStepOf}

pub named_step-same-requires-clause-latest : goal.named_step-same-requires-clause-latest
named_step-same-requires-clause-latest c =
    let (P, edits, has) = c.requires.groundwork in
    let starts = c.args.context.now.latest.now.starts in
    subst (λ (Q : Contents). AreLatestStarts Q starts) (sym c.move_columns.ensures.contents) ((frame_stays P c.args.after.contents edits has.moved has.alike).latest starts has.latest)

pub named_step-same-requires-clause-edited : goal.named_step-same-requires-clause-edited
named_step-same-requires-clause-edited c =
    let (P, edits, has) = c.requires.groundwork in
    subst (λ (Q : Contents). ArePlacesIn Q c.deref.result.now) (sym c.move_columns.ensures.contents)
    (subst (ArePlacesIn c.args.after.contents) (sym c.deref.ensures.value) (places_then P c.args.after.contents edits c.args.context.now.latest.now.starts c.args.columns.now c.args.ready.now c.args.groundwork_with_room.0 has))

module _ (c : After-named_step-same) where
  -- what the columns are once they were moved on
  columns_then : AreColumnsOf c.args.after.contents c.named_step-same.new.columns
  columns_then = columns_alike c.args.after.contents c.named_step-same.new.columns c.move_columns.new.columns c.named_step-same.ensures.unchanged c.move_columns.ensures.columns

  -- what stood there leads back
  back : MakesOf c.args.groundwork_with_room.0.old c.named_step-same.new.columns c.args.columns.now
  back = makes_alike c.args.groundwork_with_room.0.old c.named_step-same.new.columns c.move_columns.new.columns c.args.columns.now c.named_step-same.ensures.unchanged c.move_columns.ensures.back

  listed : IsReadyListOf c.args.after.contents c.named_step-same.new.ready
  listed = subst (λ (Q : Contents). IsReadyListOf Q c.named_step-same.new.ready) c.move_columns.ensures.contents c.named_step-same.ensures.ready

  -- and so can the ready list be led back
  relistable_back : CanBeRelisted c.args.after.contents c.named_step-same.new.columns.statuses.items c.named_step-same.new.ready c.args.groundwork_with_room.0.old.statuses.items c.move_columns.new.noted.items
  relistable_back =
      let Q = c.args.after.contents in
      let (P, edits, has) = c.requires.groundwork in
      let starts = c.args.context.now.latest.now.starts in
      let statuses = c.named_step-same.new.columns.statuses.items in
      let ready = c.named_step-same.new.ready in
      let old = c.args.groundwork_with_room.0.old in
      let goes = goes_by Q has.sound_after statuses columns_then.statuses ready starts ((frame_stays P Q edits has.moved has.alike).latest starts has.latest) listed in
      relistable Q statuses ready goes old.statuses.items c.args.columns.now.statuses.items back.statuses c.args.groundwork_with_room.0.touched.items has.worked_out.old.in_order c.move_columns.new.noted.items c.move_columns.ensures.noted

pub put_snapshot-requires-clause-makes : goal.put_snapshot-requires-clause-makes
put_snapshot-requires-clause-makes c = (c.args.columns.now, back (goal.at.put_snapshot-requires-clause-makes c).After-named_step-same)

pub put_snapshot-requires-clause-listed : goal.put_snapshot-requires-clause-listed
put_snapshot-requires-clause-listed c =
    let Q = c.args.after.contents in (
      Q,
      subst (CanBeRelisted Q c.named_step-same.new.columns.statuses.items c.named_step-same.new.ready c.args.groundwork_with_room.0.old.statuses.items) (sym c.deref-3.ensures.value)
          (relistable_back (goal.at.put_snapshot-requires-clause-listed c).After-named_step-same),
    )

pub returns-clause-unchanged : goal.returns-clause-unchanged
returns-clause-unchanged c = c.put_snapshot.ensures.alike c.args.columns.now (back (goal.at.returns-clause-unchanged c).After-named_step-same)

pub returns-clause-ready : goal.returns-clause-ready
returns-clause-ready c P edits has =
    let here = (goal.at.returns-clause-ready c).After-named_step-same in
    let Q = c.args.after.contents in
    let starts = c.args.context.now.latest.now.starts in
    let l = c.args.columns.now in
    let new = c.put_snapshot.new.columns in
    let ready = c.put_snapshot.new.ready in
    let alike = c.put_snapshot.ensures.alike l (back here) in
    let can = subst (CanBeRelisted Q c.named_step-same.new.columns.statuses.items c.named_step-same.new.ready c.args.groundwork_with_room.0.old.statuses.items) (sym c.deref-3.ensures.value) (relistable_back here) in
    list_is P has.sound new.statuses.items (columns_alike P new l alike has.columns).statuses ready
    (goes_before P Q edits has.moved starts has.latest ((frame_stays P Q edits has.moved has.alike).latest starts has.latest) new.statuses.items ready (c.put_snapshot.ensures.ready Q can))

pub returns-clause-step : goal.returns-clause-step
returns-clause-step c =
    let m = c.args.context.now.at in
    let b = c.args.groundwork_with_room.0.facilities in
    let middle = c.move_columns.new.records.looks in
    let last = c.named_step-same.result.0.looks in
    let Q = c.args.after.contents in
    let touched = c.args.groundwork_with_room.0.touched.items in
    let r = c.named_step-same.result.1 in
    let told = subst (λ ts. IfOk r (IsStepOf c.move_columns.new.records.contents m ts b middle last)) c.deref.ensures.value c.named_step-same.ensures.step in
    let here = subst (λ (S : Contents). IfOk r (IsStepOf S m touched b middle last)) c.move_columns.ensures.contents told in
    if_ok r (λ s is. (middle, c.move_columns.ensures.fewest, c.move_columns.ensures.most, is)) here
