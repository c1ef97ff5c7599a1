use Rattle.std.proofs.Common.{sym, subst, ℕ, List}
use Rattle.plan_model.specs.Contents.{Contents}
use Rattle.plan_checks.specs.derived_figures.specs.Entries.{CanBeRelisted}
use Rattle.small_requests.proofs.EffectParts.{followed_home, list_home, places_then, relistable_home, was_named}
use Rattle.small_requests.proofs.NamedFigures.{latest_after}
use Rattle.small_requests.proofs.step_notes.note.Goals as goal
use Rattle.small_requests.proofs.step_notes.note.Goals.{After-move_on}
use Rattle.small_requests.specs.Columns.{AreColumnsOf, IsReadyListOf, MakesOf}
use Rattle.small_requests.specs.Edits.{ArePlacesIn}
use Rattle.small_requests.specs.Effects.{WereEffectsNamed}

pub move_on-requires : goal.move_on-requires
move_on-requires c =
    let (P, m, edited, was) = c.requires in
    let starts = c.args.context.now.latest.now.starts in (
      P,
      m,
      edited,
      starts,
      subst (λ (R : Contents). WereEffectsNamed P R m edited starts c.args.columns.now c.args.ready.now c.args.effects.now) (sym c.uncounted.ensures.contents) was,
    )

module _ (c : After-move_on) where
  settled : AreColumnsOf c.args.records.now.contents c.move_on.new.columns
  settled = subst (λ (R : Contents). AreColumnsOf R c.move_on.new.columns) c.uncounted.ensures.contents c.move_on.ensures.columns

  listed : IsReadyListOf c.args.records.now.contents c.move_on.new.ready
  listed = subst (λ (R : Contents). IsReadyListOf R c.move_on.new.ready) c.uncounted.ensures.contents c.move_on.ensures.ready

  -- for each plan that it may have been
  module _ (P : Contents) (m : ℕ) (edited : List ℕ) (was : WereEffectsNamed P c.args.records.now.contents m edited c.args.context.now.latest.now.starts c.args.columns.now c.args.ready.now c.args.effects.now) where
    home : MakesOf c.args.effects.now.old c.move_on.new.columns c.args.columns.now
    home = followed_home P c.args.records.now.contents m edited c.args.context.now.latest.now.starts c.args.columns.now c.args.ready.now c.args.effects.now was c.move_on.new.columns settled

    relistable : CanBeRelisted c.args.records.now.contents c.move_on.new.columns.statuses.items c.move_on.new.ready c.args.effects.now.old.statuses.items c.args.effects.now.entries.items
    relistable = relistable_home P c.args.records.now.contents m edited c.args.context.now.latest.now.starts c.args.columns.now c.args.ready.now c.args.effects.now was c.move_on.new.columns settled c.move_on.new.ready listed

pub noted_of-noted-requires-clause-latest : goal.noted_of-noted-requires-clause-latest
noted_of-noted-requires-clause-latest c =
    let (P, m, edited, was) = c.requires in
    let R = c.args.records.now.contents in
    let starts = c.args.context.now.latest.now.starts in
    let l = c.args.columns.now in
    let r = c.args.ready.now in
    let f = c.args.effects.now in
    latest_after P R f.naming.named.items f.naming.places.items starts l r (was_named P R m edited starts l r f was)

pub noted_of-noted-requires-clause-touched : goal.noted_of-noted-requires-clause-touched
noted_of-noted-requires-clause-touched c =
    let (P, m, edited, was) = c.requires in
    let R = c.args.records.now.contents in
    subst (ArePlacesIn R) (sym c.deref.ensures.value) (places_then P R m edited c.args.context.now.latest.now.starts c.args.columns.now c.args.ready.now c.args.effects.now was)

pub put_snapshot-requires-clause-makes : goal.put_snapshot-requires-clause-makes
put_snapshot-requires-clause-makes c = let (P, m, edited, was) = c.requires in (c.args.columns.now, home (goal.at.put_snapshot-requires-clause-makes c).After-move_on P m edited was)

pub put_snapshot-requires-clause-listed : goal.put_snapshot-requires-clause-listed
put_snapshot-requires-clause-listed c =
    let (P, m, edited, was) = c.requires in
    let R = c.args.records.now.contents in (
      R,
      subst (CanBeRelisted R c.move_on.new.columns.statuses.items c.move_on.new.ready c.args.effects.now.old.statuses.items) (sym c.deref-2.ensures.value)
          (relistable (goal.at.put_snapshot-requires-clause-listed c).After-move_on P m edited was),
    )

pub returns-clause-unchanged : goal.returns-clause-unchanged
returns-clause-unchanged c = let (P, m, edited, was) = c.requires in c.put_snapshot.ensures.alike c.args.columns.now (home (goal.at.returns-clause-unchanged c).After-move_on P m edited was)

pub returns-clause-ready : goal.returns-clause-ready
returns-clause-ready c P m edited was =
    let here = (goal.at.returns-clause-ready c).After-move_on in
    let R = c.args.records.now.contents in
    let l = c.args.columns.now in
    let can = subst (CanBeRelisted R c.move_on.new.columns.statuses.items c.move_on.new.ready c.args.effects.now.old.statuses.items) (sym c.deref-2.ensures.value) (relistable here P m edited was) in
    list_home P R m edited c.args.context.now.latest.now.starts l c.args.ready.now c.args.effects.now was c.put_snapshot.new.columns (c.put_snapshot.ensures.alike l (home here P m edited was)) c.put_snapshot.new.ready (c.put_snapshot.ensures.ready R can)
