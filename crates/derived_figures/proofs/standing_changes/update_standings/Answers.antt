use Rattle.std.proofs.Common.{arith, ◌≤◌, length, get_or, subst, take, false}
use Rattle.std.proofs.lemmas.List.{take_all, take_more}
use Rattle.std.proofs.lemmas.Option.{slice_get-get_or}
use Rattle.start_choice.specs.satisfaction.specs.declared.nodes.WaitState.{WaitState}
use Rattle.start_choice.specs.plan_status.specs.declared.standings.Standing.{Standing}
use Rattle.derived_figures.proofs.StandingsMoved.{AreUpdatedAt, all_restood, few_kept, one_restood, others_stay}
use Rattle.derived_figures.proofs.standing_changes.update_standings.Goals as goal
use Rattle.derived_figures.proofs.standing_changes.update_standings.Goals.{After-loop-place}

pub waiting_for-requires : goal.waiting_for-requires
waiting_for-requires c =
    let within = c.requires.within c.loop-place.place-index 0 c.loop-place-test.true in
    few_kept c.requires.counters.0 c.requires.counters.1 c.args.wait_states.now c.requires.counters.2 (get_or c.args.places.now c.loop-place.place-index 0) _ (omega (arith, within, c.requires.size))

pub loop-place-preserved : goal.loop-place-preserved
loop-place-preserved c =
    let places = c.args.places.now in
    let n = c.loop-place.place-index in
    let p = get_or places n 0 in
    let before = c.args.standings.now in
    let after = c.loop-place.standings in
    let wait_states = c.args.wait_states.now in
    let within = c.requires.within n 0 c.loop-place-test.true in
    let no_standing : Standing = record { preds = record { live = false; satisfied = false; nonreporting = false }; waiting = 0 } in
    let not_kept : WaitState = record { satisfied = false; waiting = 0 } in
    rw (take_more places n 0 c.loop-place-test.true)
    (one_restood (take n places) wait_states before after p (get_or wait_states p not_kept) (get_or after p no_standing) c.waiting_for.result c.loop-place.invariant
    (slice_get-get_or after p no_standing (omega (arith, within, c.loop-place.invariant.size)))
    (slice_get-get_or wait_states p not_kept (omega (arith, within, c.requires.size))) c.waiting_for.ensures)

-- after the last place all are in line
all_in_line : (c : After-loop-place) → length c.args.places.now ≤ c.loop-place.place-index → AreUpdatedAt c.args.places.now c.args.wait_states.now c.args.standings.now c.loop-place.standings
all_in_line c past = subst (λ ps. AreUpdatedAt ps c.args.wait_states.now c.args.standings.now c.loop-place.standings) (take_all c.loop-place.place-index c.args.places.now past) c.loop-place.invariant

pub returns-clause-elsewhere : goal.returns-clause-elsewhere
returns-clause-elsewhere c = others_stay c.args.places.now c.args.wait_states.now c.args.standings.now c.loop-place.standings (all_in_line ((goal.at.returns-clause-elsewhere c).After-loop-place) c.loop-place-test.false)

pub returns-clause-right : goal.returns-clause-right
returns-clause-right c P Q moved_at valid moved alike stand counters agree =
    all_restood P Q moved_at valid moved alike c.args.places.now c.args.wait_states.now c.args.standings.now c.loop-place.standings stand counters agree
    (all_in_line ((goal.at.returns-clause-right c).After-loop-place) c.loop-place-test.false)
