use Rattle.std.proofs.Common.{arith, refl, ◌≡◌, ◌+◌, ◌≤◌, ℕ, sym, ap, subst, ◌∙◌, drop, length, map, option_map, get_or, slice_get, Some}
use Rattle.std.proofs.lemmas.List.{drop_all, drop_more, length-map}
use Rattle.std.proofs.lemmas.List.Elements.{All-contains}
use Rattle.std.proofs.lemmas.Option.{slice_get-get_or, slice_get-map}
use Rattle.status_rules.specs.declared.Status.{Status}
use Rattle.status_rules.specs.declared.Status.TheVariants as status
use Rattle.start_choice.specs.plan_drafts.specs.Places.{AreStatuses}
use Rattle.derived_figures.specs.Entries.{IsEntryAt}
use Rattle.derived_figures.specs.Overwritten.{overwritten}
use Rattle.derived_figures.specs.StatusesBefore.{HasStatusAt}
use Rattle.derived_figures.proofs.Read.{entries_are, in_line_before, tallies_are}
use Rattle.derived_figures.proofs.StatusesMoved.{AreRestatedAt, all_restated, right_beside, written_right}
use Rattle.derived_figures.proofs.status_changes.set_statuses.Goals as goal
use Rattle.derived_figures.proofs.status_changes.set_statuses.Goals.{After-index-listed-index, After-loop-index}

abbrev place_of : ℕ × Status → ℕ
place_of value = value.0

pub loop-index-init : goal.loop-index-init
loop-index-init c =
    let b = c.requires.before in
    record {
      left = refl;
      in_line = in_line_before b.0 c.args.uncounted.now.contents.now b.1 b.3 c.are_sound.ensures.valid b.2 b.4 c.args.statuses.now c.args.tallies.now c.args.ready.now.entries b.5;
      room = refl;
    }

module _ (c : After-index-listed-index) where
  -- the value that comes next, and its place
  abbrev next : ℕ × Status
  next = get_or c.args.to.now c.loop-index.index (0, status.Started)

  placed : slice_get (map place_of c.args.to.now) c.loop-index.index ≡ Some next.0
  placed = slice_get-map place_of c.args.to.now c.loop-index.index ∙ ap (option_map place_of) (slice_get-get_or c.args.to.now c.loop-index.index (0, status.Started) c.loop-index-test.true)

  its_entry : IsEntryAt c.args.uncounted.now.contents.now next.0 c.index-listed-index.result
  its_entry =
      let k = c.loop-index.index in
      let e = c.index-listed-index.result in
      let sized = c.requires.listed.size in
      c.requires.listed.each k next.0 e placed
      (slice_get-get_or c.args.listed.now k e (omega (arith, c.loop-index-test.true, sized, length-map c.args.to.now place_of)) ∙ ap Some (sym c.index-listed-index.is))

pub set_status_at-requires-clause-entry : goal.set_status_at-requires-clause-entry
set_status_at-requires-clause-entry c = its_entry ((goal.at.set_status_at-requires-clause-entry c).After-index-listed-index)

pub loop-index-preserved : goal.loop-index-preserved
loop-index-preserved c =
    let n = c.loop-index.index in
    let e = next ((goal.at.loop-index-preserved c).After-index-listed-index) in
    let inv = c.loop-index.invariant in
    record {
      left = ap (overwritten (drop (n + 1) c.args.to.now)) c.set_status_at.ensures.statuses ∙ ap (λ vs. overwritten vs c.loop-index.statuses) (sym (drop_more c.args.to.now n (0, status.Started) c.loop-index-test.true)) ∙ inv.left;
      in_line = c.set_status_at.ensures.in_line;
      room = c.set_status_at.ensures.room ∙ inv.room;
    }

-- after the last one all are written
all_written : (c : After-loop-index) → length c.args.to.now ≤ c.loop-index.index → c.loop-index.statuses ≡ overwritten c.args.to.now c.args.statuses.now
all_written c past = ap (λ vs. overwritten vs c.loop-index.statuses) (sym (drop_all c.loop-index.index c.args.to.now past)) ∙ c.loop-index.invariant.left

-- so the statuses are right
all_right : (c : After-loop-index) → length c.args.to.now ≤ c.loop-index.index → AreStatuses c.args.uncounted.now.contents.now c.loop-index.statuses
all_right c past =
    let Q = c.args.uncounted.now.contents.now in
    let b = c.requires.before in
    let to = c.args.to.now in
    let places = map (λ value. value.0) to in
    all_restated Q places c.args.statuses.now c.loop-index.statuses (right_beside b.0 Q b.1 b.3 places c.args.statuses.now b.5.statuses b.6)
    (subst (AreRestatedAt Q places c.args.statuses.now) (sym (all_written c past)) (written_right Q to (λ value. All-contains (HasStatusAt Q) to value c.requires.right) c.args.statuses.now))
    c.loop-index.invariant.in_line.size

pub returns-clause-statuses : goal.returns-clause-statuses
returns-clause-statuses c = all_right ((goal.at.returns-clause-statuses c).After-loop-index) c.loop-index-test.false

pub returns-clause-tallies : goal.returns-clause-tallies
returns-clause-tallies c =
    let right = all_right ((goal.at.returns-clause-tallies c).After-loop-index) c.loop-index-test.false in
    tallies_are c.args.uncounted.now.contents.now c.are_sound.ensures.valid.acyclic c.loop-index.statuses right c.loop-index.tallies c.loop-index.invariant.in_line.tallies

pub returns-clause-ready : goal.returns-clause-ready
returns-clause-ready c =
    let right = all_right ((goal.at.returns-clause-ready c).After-loop-index) c.loop-index-test.false in
    entries_are c.args.uncounted.now.contents.now c.are_sound.ensures.valid.acyclic c.loop-index.statuses right c.loop-index.ready.entries c.loop-index.invariant.in_line.ready
