use Rattle.std.proofs.Common.{◌≡◌, sym, subst, ap, arith, ℕ, length, map, All}
use Rattle.std.proofs.lemmas.List.{with_items_is}
use Rattle.std.specs.FinMap.{entries}
use Rattle.plan_drafts.specs.Places.{AreStatuses}
use Rattle.plan_checks.specs.derived_figures.specs.StatusesBefore.{HasStatusAt, KeepStatus}
use Rattle.plan_checks.specs.derived_figures.specs.Entries.{AreEntriesAt}
use Rattle.plan_checks.specs.plan_status.specs.Standings.{AreTallies}
use Rattle.small_requests.proofs.EffectParts.{entries_listed, keeps_status, moved_then, was_named}
use Rattle.small_requests.proofs.Listing.{room_after}
use Rattle.small_requests.proofs.NamedFigures.{kept_after, latest_after, standings_after}
use Rattle.small_requests.proofs.NamedStatuses.{right_statuses}
use Rattle.small_requests.proofs.step_notes.move_on.Goals as goal
use Rattle.status_rules.specs.declared.Status.{Status}

abbrev place_of : ℕ × Status → ℕ
place_of value = value.0

pub set_statuses-requires-clause-listed : goal.set_statuses-requires-clause-listed
set_statuses-requires-clause-listed c =
    let (P, m, edited, starts, was) = c.requires in
    let R = c.args.rest.now.contents.now in
    let f = c.args.effects.now in
    subst (λ to. AreEntriesAt R (map place_of to) c.deref-2.result.now) (sym c.deref.ensures.value)
    (subst (AreEntriesAt R (map place_of f.statuses.items)) (sym c.deref-2.ensures.value) (entries_listed P R m edited starts c.args.columns.now c.args.ready.now f was))

pub set_statuses-requires-clause-right : goal.set_statuses-requires-clause-right
set_statuses-requires-clause-right c =
    let (P, m, edited, starts, was) = c.requires in
    let R = c.args.rest.now.contents.now in
    let f = c.args.effects.now in
    let l = c.args.columns.now in
    let r = c.args.ready.now in
    subst (All (HasStatusAt R)) (sym c.deref.ensures.value)
    (right_statuses P R f.naming.named.items f.naming.places.items starts l r (was_named P R m edited starts l r f was) f.touched.items f.statuses.items was.effects.statuses)

pub set_statuses-requires-clause-room : goal.set_statuses-requires-clause-room
set_statuses-requires-clause-room c =
    let (P, m, edited, starts, was) = c.requires in
    let R = c.args.rest.now.contents.now in
    let f = c.args.effects.now in
    room_after P R f.naming.places.items (moved_then P R m edited starts c.args.columns.now c.args.ready.now f was) c.args.ready.now was.ready

pub set_statuses-requires-clause-before : goal.set_statuses-requires-clause-before
set_statuses-requires-clause-before c =
    let (P, m, edited, starts, was) = c.requires in
    let R = c.args.rest.now.contents.now in
    let f = c.args.effects.now in
    let l = c.args.columns.now in
    let r = c.args.ready.now in (
      P,
      f.naming.places.items,
      starts,
      moved_then P R m edited starts l r f was,
      latest_after P R f.naming.named.items f.naming.places.items starts l r (was_named P R m edited starts l r f was),
      record {
        latest = was.latest;
        statuses = subst (AreStatuses P) (sym c.deref_mut.ensures.value) was.columns.statuses;
        tallies = subst (AreTallies P) (sym c.deref_mut-2.ensures.value) was.columns.tallies;
        ready = was.ready.listed;
      },
      subst (λ to. KeepStatus P R (map place_of to)) (sym c.deref.ensures.value) (keeps_status P R m edited starts l r f was),
    )

pub returns-clause-columns : goal.returns-clause-columns
returns-clause-columns c =
    let (P, m, edited, starts, was) = c.requires in
    let R = c.args.rest.now.contents.now in
    let f = c.args.effects.now in
    let os = f.naming.named.items in
    let places = f.naming.places.items in
    let l = c.args.columns.now in
    let r = c.args.ready.now in
    let named = was_named P R m edited starts l r f was in
    let moved = moved_then P R m edited starts l r f was in
    let groups : length (entries R.occurrences) ≡ length (entries P.occurrences) = ap (λ cs. length (entries cs)) moved.occurrences in
    let statuses = c.set_statuses.ensures.statuses in
    let tallies = c.set_statuses.ensures.tallies in
    record {
      wait_states = kept_after P R os places starts l r named;
      standings = standings_after P R os places starts l r named;
      statuses = subst (AreStatuses R) (sym (with_items_is l.statuses c.set_statuses.new.statuses (omega (arith, statuses.size, was.columns.statuses.size, moved.size, l.statuses.ok.0)))) statuses;
      tallies = subst (AreTallies R) (sym (with_items_is l.tallies c.set_statuses.new.tallies (omega (arith, tallies.size, was.columns.tallies.size, groups, l.tallies.ok.0)))) tallies;
    }

pub returns-clause-ready : goal.returns-clause-ready
returns-clause-ready c =
    let (P, m, edited, starts, was) = c.requires in
    let R = c.args.rest.now.contents.now in
    let f = c.args.effects.now in
    let room = room_after P R f.naming.places.items (moved_then P R m edited starts c.args.columns.now c.args.ready.now f was) c.args.ready.now was.ready in
    record { listed = c.set_statuses.ensures.ready; room = omega (arith, room, c.set_statuses.ensures.room) }
