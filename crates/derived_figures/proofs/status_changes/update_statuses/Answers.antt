use Rattle.std.proofs.Common.{arith, refl, ◌∙◌, ◌≡◌, ◌<◌, ◌≤◌, sym, subst, length, take, get_or, slice_get, Some}
use Rattle.std.specs.FinMap.{entries}
use Rattle.std.proofs.lemmas.List.{take_all, take_more}
use Rattle.plan_basics.specs.declared.keys.OpKey.{OpKey}
use Rattle.plan_model.specs.Contents.{Contents, Operation}
use Rattle.plan_model.specs.Status.{HasStatus}
use Rattle.std.proofs.lemmas.List.Elements.{All-contains, Contains-get_or}
use Rattle.std.proofs.lemmas.Option.{slice_get-get_or}
use Rattle.start_choice.specs.Choices.{AreLatestStarts}
use Rattle.start_choice.specs.plan_drafts.specs.Places.{AreStatuses}
use Rattle.start_choice.specs.plan_status.specs.Standings.{AreStandings}
use Rattle.derived_figures.specs.ByStatuses.{AreInLine, HasRoomForAll}
use Rattle.derived_figures.specs.Entries.{IsEntryAt}
use Rattle.derived_figures.proofs.Noted.{all_noted, none_noted, one_noted}
use Rattle.derived_figures.proofs.Read.{entries_are, in_line_before, tallies_are}
use Rattle.derived_figures.proofs.StatusesMoved.{AreRestatedAt, all_restated, none_restated, one_restated, right_beside}
use Rattle.derived_figures.proofs.status_changes.update_statuses.Goals as goal
use Rattle.derived_figures.proofs.status_changes.update_statuses.Goals.{After-loop-place, After-see}

pub loop-place-init : goal.loop-place-init
loop-place-init c =
    let Q = c.args.records.now.contents in
    let b = c.requires.before in
    record {
      contents = refl;
      fewest = omega arith;
      most = omega arith;
      in_line = in_line_before b.0 Q b.1 b.2 c.uncounted.ensures.sound.valid c.args.by.latest.now.starts c.requires.latest c.args.statuses.now c.args.tallies.now c.args.ready.now.entries b.3;
      restated = none_restated Q c.args.statuses.now;
      room = refl;
      noted = none_noted Q c.args.by.places.now c.args.noted.now.items c.requires.none_noted;
      space = c.requires.space;
      within = omega arith;
    }

pub see-requires : goal.see-requires
see-requires c =
    let places = c.args.by.places.now in
    let p = get_or places c.loop-place.place-index 0 in
    subst (λ (Q : Contents). p < length (entries Q.operations)) (sym c.loop-place.invariant.contents)
    (All-contains (λ i. i < length (entries c.args.records.now.contents.operations)) places p c.requires.within (Contains-get_or places c.loop-place.place-index 0 c.loop-place-test.true))

module _ (c : After-see) where
  -- what stands beside what is seen is the plan
  same : c.see.result.uncounted.contents.now ≡ c.args.records.now.contents
  same = c.see.ensures.uncounted ∙ c.loop-place.invariant.contents

  row_beside : slice_get (entries c.see.result.uncounted.contents.now.operations) (get_or c.args.by.places.now c.loop-place.place-index 0) ≡ Some (c.see.result.key.now, c.see.result.operation.now)
  row_beside =
      subst (λ (Q : Contents). slice_get (entries Q.operations) (get_or c.args.by.places.now c.loop-place.place-index 0) ≡ Some (c.see.result.key.now, c.see.result.operation.now))
      (sym c.see.ensures.uncounted) c.see.ensures.row

pub status_at-status-requires-clause-row : goal.status_at-status-requires-clause-row
status_at-status-requires-clause-row c = row_beside (goal.at.status_at-status-requires-clause-row c).After-see

pub status_at-status-requires-clause-standings : goal.status_at-status-requires-clause-standings
status_at-status-requires-clause-standings c = subst (λ (Q : Contents). AreStandings Q c.args.by.standings.now) (sym (same (goal.at.status_at-status-requires-clause-standings c).After-see)) c.requires.standings

pub entry_seen-entry-requires-clause-row : goal.entry_seen-entry-requires-clause-row
entry_seen-entry-requires-clause-row c = row_beside (goal.at.entry_seen-entry-requires-clause-row c).After-see

pub entry_seen-entry-requires-clause-latest : goal.entry_seen-entry-requires-clause-latest
entry_seen-entry-requires-clause-latest c = subst (λ (Q : Contents). AreLatestStarts Q c.args.by.latest.now.starts) (sym (same (goal.at.entry_seen-entry-requires-clause-latest c).After-see)) c.requires.latest

pub set_status_at-requires-clause-room : goal.set_status_at-requires-clause-room
set_status_at-requires-clause-room c =
    subst (λ (Q : Contents). HasRoomForAll Q c.loop-place.ready) (sym (same (goal.at.set_status_at-requires-clause-room c).After-see))
    (omega (arith, c.requires.room, c.loop-place.invariant.room))

pub set_status_at-requires-clause-in_line : goal.set_status_at-requires-clause-in_line
set_status_at-requires-clause-in_line c =
    subst (λ (Q : Contents). AreInLine Q c.loop-place.statuses c.loop-place.tallies c.loop-place.ready.entries) (sym (same (goal.at.set_status_at-requires-clause-in_line c).After-see))
    c.loop-place.invariant.in_line

pub loop-place-preserved : goal.loop-place-preserved
loop-place-preserved c =
    let Q = c.args.records.now.contents in
    let s = same (goal.at.loop-place-preserved c).After-see in
    let places = c.args.by.places.now in
    let n = c.loop-place.place-index in
    let p = get_or places n 0 in
    let inv = c.loop-place.invariant in
    let one = c.see.follows.holds-at-none in
    record {
      contents = one.contents ∙ inv.contents;
      fewest = omega (arith, one.fewest, inv.fewest);
      most = omega (arith, one.most, inv.most);
      in_line = subst (λ (R : Contents). AreInLine R c.set_status_at.new.statuses c.set_status_at.new.tallies c.set_status_at.new.ready.entries) s c.set_status_at.ensures.in_line;
      restated = rw (take_more places n 0 c.loop-place-test.true, c.set_status_at.ensures.statuses)
          (one_restated Q (take n places) c.args.statuses.now c.loop-place.statuses p c.status_at-status.result inv.restated
          (subst (λ (R : Contents). (o : OpKey) (op : Operation) → slice_get (entries R.operations) p ≡ Some (o, op) → HasStatus R o c.status_at-status.result) s c.status_at-status.ensures));
      room = c.set_status_at.ensures.room ∙ inv.room;
      noted = rw (c.push_reserved.ensures.items)
          (one_noted Q places n c.loop-place.noted.items inv.noted p (slice_get-get_or places n 0 c.loop-place-test.true) c.entry_seen-entry.result
          (subst (λ (R : Contents). IsEntryAt R p c.entry_seen-entry.result) s c.entry_seen-entry.ensures));
      space = omega (arith, inv.space, c.push_reserved.ensures.capacity);
      within = omega (arith, c.loop-place-test.true);
    }

-- after the last place the statuses are right
all_right : (c : After-loop-place) → length c.args.by.places.now ≤ c.loop-place.place-index → AreStatuses c.args.records.now.contents c.loop-place.statuses
all_right c past =
    let Q = c.args.records.now.contents in
    let b = c.requires.before in
    all_restated Q c.args.by.places.now c.args.statuses.now c.loop-place.statuses (right_beside b.0 Q b.1 b.2 c.args.by.places.now c.args.statuses.now b.3.statuses b.4)
    (subst (λ done. AreRestatedAt Q done c.args.statuses.now c.loop-place.statuses) (take_all c.loop-place.place-index c.args.by.places.now past) c.loop-place.invariant.restated)
    c.loop-place.invariant.in_line.size

pub returns-clause-statuses : goal.returns-clause-statuses
returns-clause-statuses c = all_right ((goal.at.returns-clause-statuses c).After-loop-place) c.loop-place-test.false

pub returns-clause-tallies : goal.returns-clause-tallies
returns-clause-tallies c =
    let right = all_right ((goal.at.returns-clause-tallies c).After-loop-place) c.loop-place-test.false in
    tallies_are c.args.records.now.contents c.uncounted.ensures.sound.valid.acyclic c.loop-place.statuses right c.loop-place.tallies c.loop-place.invariant.in_line.tallies

pub returns-clause-ready : goal.returns-clause-ready
returns-clause-ready c =
    let right = all_right ((goal.at.returns-clause-ready c).After-loop-place) c.loop-place-test.false in
    entries_are c.args.records.now.contents c.uncounted.ensures.sound.valid.acyclic c.loop-place.statuses right c.loop-place.ready.entries c.loop-place.invariant.in_line.ready

pub returns-clause-noted : goal.returns-clause-noted
returns-clause-noted c =
    all_noted c.args.records.now.contents c.args.by.places.now c.loop-place.place-index c.loop-place.noted.items c.loop-place.invariant.noted
    (omega (arith, c.loop-place.invariant.within, c.loop-place-test.false))
