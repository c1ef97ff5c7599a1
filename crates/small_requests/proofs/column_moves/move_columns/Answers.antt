use Rattle.std.proofs.Common.{◌≡◌, sym, subst, ap, ◌∙◌, arith, ◌<◌, length, All}
use Rattle.std.proofs.lemmas.List.{with_items_is}
use Rattle.std.specs.FinMap.{entries}
use Rattle.std.specs.Vec.{with_items}
use Rattle.small_requests.proofs.OneFrame.{frame_stays}
use Rattle.plan_drafts.specs.Places.{AreStatuses}
use Rattle.plan_checks.specs.derived_figures.specs.WaitStates.{AreWaitStates}
use Rattle.plan_checks.specs.derived_figures.specs.StatusesBefore.{KeepStatus}
use Rattle.plan_checks.specs.derived_figures.specs.StandingChanges.{AreCounters}
use Rattle.plan_checks.specs.plan_status.specs.Standings.{AreStandings, AreTallies}
use Rattle.small_requests.proofs.MovedColumns.{makes_back, then, then_known}
use Rattle.small_requests.proofs.Listing.{room_after}
use Rattle.small_requests.proofs.Overwritten.{vector_overwritten}
use Rattle.small_requests.proofs.StepParts.{all_below, counters, keep_status, updated_standing}
use Rattle.small_requests.proofs.column_moves.move_columns.Goals as goal
use Rattle.small_requests.specs.Columns.{AreColumnsOf}
use Rattle.small_requests.specs.declared.columns.FigureColumns.{FigureColumns}
use Rattle.small_requests.proofs.column_moves.move_columns.Goals.{After-update_standings, After-update_statuses}

pub update_standings-requires-clause-within : goal.update_standings-requires-clause-within
update_standings-requires-clause-within c =
    let has = c.requires.groundwork.2 in
    let n = length c.deref_mut-2.result.now in
    let size : n ≡ length (entries c.requires.groundwork.0.operations) = ap length c.deref_mut-2.ensures.value ∙ has.columns.standings.size in
    subst (All (λ i. i < n)) (sym c.deref-3.ensures.value)
    (all_below n c.args.groundwork.now.touched.items (λ i at. subst (λ m. i < m) (sym size) (subst (λ m. i < m) has.moved.size (has.worked_out.moved_on.touched.within i at))))

pub update_standings-requires-clause-counters : goal.update_standings-requires-clause-counters
update_standings-requires-clause-counters c =
    let Q = c.args.records.now.contents in
    let l = c.args.columns.now in
    let g = c.args.groundwork.now in
    let has = c.requires.groundwork.2 in
    let wait_states = c.deref-2.ensures.value ∙ vector_overwritten g.wait_states.items l.wait_states c.deref.result.now c.deref_mut.result.now c.put_at.new.list c.deref.ensures.value c.deref_mut.ensures.value c.put_at.ensures in
    (Q, has.sound_after.valid, subst (AreCounters Q) (sym wait_states) (counters Q (then c.requires.groundwork.0 Q c.requires.groundwork.1 c.args.latest.now.starts l c.args.ready.now g has) has.worked_out.moved_on.kept_then))

pub update_statuses-requires-clause-within : goal.update_statuses-requires-clause-within
update_statuses-requires-clause-within c =
    let n = length (entries c.args.records.now.contents.operations) in
    subst (All (λ i. i < n)) (sym c.deref-5.ensures.value) (all_below n c.args.groundwork.now.touched.items c.requires.groundwork.2.worked_out.moved_on.touched.within)

-- the kept ones are those then
kept_is : (c : After-update_standings) → c.deref-2.result.now ≡ then c.requires.groundwork.0 c.args.records.now.contents c.requires.groundwork.1 c.args.latest.now.starts c.args.columns.now c.args.ready.now c.args.groundwork.now c.requires.groundwork.2
kept_is c =
    let l = c.args.columns.now in
    let g = c.args.groundwork.now in
    c.deref-2.ensures.value ∙ vector_overwritten g.wait_states.items l.wait_states c.deref.result.now c.deref_mut.result.now c.put_at.new.list c.deref.ensures.value c.deref_mut.ensures.value c.put_at.ensures

-- the standings are those of the plan then
stands : (c : After-update_standings) → AreStandings c.args.records.now.contents c.update_standings.new.standings
stands c =
    let P = c.requires.groundwork.0 in
    let Q = c.args.records.now.contents in
    let l = c.args.columns.now in
    let g = c.args.groundwork.now in
    let has = c.requires.groundwork.2 in
    let on = has.worked_out.moved_on in
    updated_standing P Q c.requires.groundwork.1 has.moved has.alike has.sound_after.valid l.wait_states.items (then P Q c.requires.groundwork.1 c.args.latest.now.starts l c.args.ready.now g has) has.columns.wait_states on.kept_then
    l.standings.items has.columns.standings g.touched.items on.elsewhere c.deref_mut-2.result.now c.deref-2.result.now c.deref-3.result.now
    c.deref_mut-2.ensures.value (kept_is c) c.deref-3.ensures.value c.update_standings.new.standings c.update_standings.ensures.right

-- and so in the columns
stands_back : (c : After-update_standings) → (with_items c.args.columns.now.standings c.update_standings.new.standings).items ≡ c.update_standings.new.standings
stands_back c =
    let l = c.args.columns.now in
    let has = c.requires.groundwork.2 in
    let right = stands c in
    with_items_is l.standings c.update_standings.new.standings (omega (arith, right.size, has.columns.standings.size, has.moved.size, l.standings.ok.0))

standings_then : (c : After-update_standings) → AreStandings c.args.records.now.contents (with_items c.args.columns.now.standings c.update_standings.new.standings).items
standings_then c = subst (AreStandings c.args.records.now.contents) (sym (stands_back c)) (stands c)

pub update_statuses-requires-clause-standings : goal.update_statuses-requires-clause-standings
update_statuses-requires-clause-standings c =
    let k : After-update_standings = (goal.at.update_statuses-requires-clause-standings c).After-update_standings in
    subst (AreStandings c.args.records.now.contents) (sym (c.deref-4.ensures.value ∙ stands_back k)) (stands k)

pub update_statuses-requires-clause-latest : goal.update_statuses-requires-clause-latest
update_statuses-requires-clause-latest c = (frame_stays c.requires.groundwork.0 c.args.records.now.contents c.requires.groundwork.1 c.requires.groundwork.2.moved c.requires.groundwork.2.alike).latest c.args.latest.now.starts c.requires.groundwork.2.latest

pub update_statuses-requires-clause-before : goal.update_statuses-requires-clause-before
update_statuses-requires-clause-before c =
    let P = c.requires.groundwork.0 in
    let Q = c.args.records.now.contents in
    let edits = c.requires.groundwork.1 in
    let has = c.requires.groundwork.2 in
    let touched = c.args.groundwork.now.touched.items in (
      P,
      edits,
      has.moved,
      record {
        latest = has.latest;
        statuses = subst (AreStatuses P) (sym c.deref_mut-3.ensures.value) has.columns.statuses;
        tallies = subst (AreTallies P) (sym c.deref_mut-4.ensures.value) has.columns.tallies;
        ready = has.ready.listed;
      },
      subst (KeepStatus P Q) (sym c.deref-5.ensures.value) (keep_status P Q edits has.moved touched (then_known P Q edits c.args.latest.now.starts c.args.columns.now c.args.ready.now c.args.groundwork.now has)),
    )

pub update_statuses-requires-clause-room : goal.update_statuses-requires-clause-room
update_statuses-requires-clause-room c = room_after c.requires.groundwork.0 c.args.records.now.contents c.requires.groundwork.1 c.requires.groundwork.2.moved c.args.ready.now c.requires.groundwork.2.ready

-- the columns then
abbrev columns_then : After-update_statuses → FigureColumns
columns_then c =
    let l = c.args.columns.now in
    record l { wait_states = with_items l.wait_states c.put_at.new.list; standings = with_items l.standings c.update_standings.new.standings; statuses = with_items l.statuses c.update_statuses.new.statuses; tallies = with_items l.tallies c.update_statuses.new.tallies }

-- they are those of the plan
moved_columns : (c : After-update_statuses) → AreStandings c.args.records.now.contents (columns_then c).standings.items → AreColumnsOf c.args.records.now.contents (columns_then c)
moved_columns c standings =
    let P = c.requires.groundwork.0 in
    let Q = c.args.records.now.contents in
    let l = c.args.columns.now in
    let g = c.args.groundwork.now in
    let has = c.requires.groundwork.2 in
    let groups : length (entries Q.occurrences) ≡ length (entries P.occurrences) = ap (λ os. length (entries os)) has.moved.occurrences in
    let wait_states = vector_overwritten g.wait_states.items l.wait_states c.deref.result.now c.deref_mut.result.now c.put_at.new.list c.deref.ensures.value c.deref_mut.ensures.value c.put_at.ensures in
    let statuses = c.update_statuses.ensures.statuses in
    let tallies = c.update_statuses.ensures.tallies in
    record {
      wait_states = subst (AreWaitStates Q) (sym wait_states) has.worked_out.moved_on.kept_then;
      standings = standings;
      statuses = subst (AreStatuses Q) (sym (with_items_is l.statuses c.update_statuses.new.statuses (omega (arith, statuses.size, has.columns.statuses.size, has.moved.size, l.statuses.ok.0)))) statuses;
      tallies = subst (AreTallies Q) (sym (with_items_is l.tallies c.update_statuses.new.tallies (omega (arith, tallies.size, has.columns.tallies.size, groups, l.tallies.ok.0)))) tallies;
    }

pub returns-clause-columns : goal.returns-clause-columns
returns-clause-columns c = moved_columns (goal.at.returns-clause-columns c).After-update_statuses (standings_then (goal.at.returns-clause-columns c).After-update_standings)

pub returns-clause-ready : goal.returns-clause-ready
returns-clause-ready c =
    let Q = c.args.records.now.contents in
    let room = room_after c.requires.groundwork.0 Q c.requires.groundwork.1 c.requires.groundwork.2.moved c.args.ready.now c.requires.groundwork.2.ready in
    record { listed = c.update_statuses.ensures.ready; room = omega (arith, room, c.update_statuses.ensures.room) }

pub returns-clause-back : goal.returns-clause-back
returns-clause-back c =
    makes_back c.requires.groundwork.0 c.args.records.now.contents c.requires.groundwork.1 c.args.latest.now.starts c.args.columns.now c.args.ready.now c.args.groundwork.now c.requires.groundwork.2 _
    (moved_columns (goal.at.returns-clause-back c).After-update_statuses (standings_then (goal.at.returns-clause-back c).After-update_standings))
