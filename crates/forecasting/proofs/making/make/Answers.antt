use Rattle.std.proofs.Common.{sym, ◌∙◌, ap, subst, ℕ, List}
use Rattle.std.specs.FinMap.{entries}
use Rattle.derived_figures.specs.plan_laws.proofs.Standing.{status_told}
use Rattle.plan_basics.specs.declared.keys.OpKey.{OpKey}
use Rattle.plan_model.specs.Plan.{Plan}
use Rattle.status_rules.specs.declared.Status.TheVariants.{Complete}
use Rattle.plan_forecast.specs.Ahead.{IsGoing, counted_from}
use Rattle.plan_forecast.proofs.Made.{going_told}
use Rattle.forecasting.specs.Following.{AreChangedPlaces, AreGoingAmong, ArePlaces}
use Rattle.forecasting.specs.Turns.{IsFirstWork}
use Rattle.plan_records.specs.declared.What.{What}
use Rattle.forecasting.proofs.AfterRequest.{Completes, clock_onward, goes_on, like_after}
use Rattle.forecasting.proofs.Followed.{still_going, still_places, time_or_place}
use Rattle.forecasting.proofs.TimesSet.{have_times, moves}
use Rattle.forecasting.proofs.making.make.Goals as goal

pub carry_out-requires : goal.carry_out-requires
carry_out-requires c =
    let s = c.requires.ahead.0 in
    let until = c.requires.ahead.1 in
    let ahead = c.requires.ahead.2 in
    let first = subst (λ (w : What). IsFirstWork s until c.args.work.at w) (sym c.request_of-request.ensures.what) c.requires.ahead.4 in
    (s, until, c.args.work.at, ahead.plan, ap (λ (X : Plan). X.loaded) ahead.plan ∙ ahead.loaded, c.requires.ahead.3, c.request_of-request.ensures.at, first)

pub set_times-requires-clause-since : goal.set_times-requires-clause-since
set_times-requires-clause-since c =
    let s = c.requires.ahead.0 in
    let until = c.requires.ahead.1 in
    let ahead = c.requires.ahead.2 in
    let first = subst (λ (w : What). IsFirstWork s until c.args.work.at w) (sym c.request_of-request.ensures.what) c.requires.ahead.4 in
    let step = c.in_ok-places.ensures.step in
    let like = like_after s until c.args.work.at c.args.plan.now.plan c.carry_out.new.plan.plan c.request_of-request.result c.args.since.now c.args.done.now ahead first c.request_of-request.ensures.at step.0 step.1 in
    ahead.begun_size ∙ sym like.count

pub set_times-requires-clause-done : goal.set_times-requires-clause-done
set_times-requires-clause-done c =
    let s = c.requires.ahead.0 in
    let until = c.requires.ahead.1 in
    let ahead = c.requires.ahead.2 in
    let first = subst (λ (w : What). IsFirstWork s until c.args.work.at w) (sym c.request_of-request.ensures.what) c.requires.ahead.4 in
    let step = c.in_ok-places.ensures.step in
    let like = like_after s until c.args.work.at c.args.plan.now.plan c.carry_out.new.plan.plan c.request_of-request.result c.args.since.now c.args.done.now ahead first c.request_of-request.ensures.at step.0 step.1 in
    ahead.ended_size ∙ sym like.count

pub set_times-requires-clause-within : goal.set_times-requires-clause-within
set_times-requires-clause-within c =
    let s = c.requires.ahead.0 in
    let until = c.requires.ahead.1 in
    let ahead = c.requires.ahead.2 in
    let first = subst (λ (w : What). IsFirstWork s until c.args.work.at w) (sym c.request_of-request.ensures.what) c.requires.ahead.4 in
    let step = c.in_ok-places.ensures.step in
    let like = like_after s until c.args.work.at c.args.plan.now.plan c.carry_out.new.plan.plan c.request_of-request.result c.args.since.now c.args.done.now ahead first c.request_of-request.ensures.at step.0 step.1 in
    still_places c.args.plan.now.plan.contents c.carry_out.new.plan.plan.contents like c.deref.result.now c.deref.result.now (subst (λ (xs : List ℕ). ArePlaces c.args.plan.now.plan.contents xs) (sym c.deref.ensures.value) c.in_ok-places.ensures.changed.within)

pub follow_going-requires-clause-going : goal.follow_going-requires-clause-going
follow_going-requires-clause-going c =
    let s = c.requires.ahead.0 in
    let until = c.requires.ahead.1 in
    let ahead = c.requires.ahead.2 in
    let first = subst (λ (w : What). IsFirstWork s until c.args.work.at w) (sym c.request_of-request.ensures.what) c.requires.ahead.4 in
    let step = c.in_ok-places.ensures.step in
    let like = like_after s until c.args.work.at c.args.plan.now.plan c.carry_out.new.plan.plan c.request_of-request.result c.args.since.now c.args.done.now ahead first c.request_of-request.ensures.at step.0 step.1 in
    still_places c.args.plan.now.plan.contents c.carry_out.new.plan.plan.contents like c.deref.result.now c.args.going.now.items c.requires.followed.going.within

pub follow_going-requires-clause-places : goal.follow_going-requires-clause-places
follow_going-requires-clause-places c =
    let s = c.requires.ahead.0 in
    let until = c.requires.ahead.1 in
    let ahead = c.requires.ahead.2 in
    let first = subst (λ (w : What). IsFirstWork s until c.args.work.at w) (sym c.request_of-request.ensures.what) c.requires.ahead.4 in
    let step = c.in_ok-places.ensures.step in
    let like = like_after s until c.args.work.at c.args.plan.now.plan c.carry_out.new.plan.plan c.request_of-request.result c.args.since.now c.args.done.now ahead first c.request_of-request.ensures.at step.0 step.1 in
    still_places c.args.plan.now.plan.contents c.carry_out.new.plan.plan.contents like c.deref-2.result.now c.deref-2.result.now (subst (λ (xs : List ℕ). ArePlaces c.args.plan.now.plan.contents xs) (sym c.deref-2.ensures.value) c.in_ok-places.ensures.changed.within)

pub returns-clause-made : goal.returns-clause-made
returns-clause-made c = λ s until ahead is.
    let first = subst (λ (w : What). IsFirstWork s until c.args.work.at w) (sym c.request_of-request.ensures.what) is in
    let step = c.in_ok-places.ensures.step in
    let P = c.args.plan.now.plan.contents in
    let Q = c.carry_out.new.plan.plan.contents in
    let like = like_after s until c.args.work.at c.args.plan.now.plan c.carry_out.new.plan.plan c.request_of-request.result c.args.since.now c.args.done.now ahead first c.request_of-request.ensures.at step.0 step.1 in
    let places = c.deref.result.now in
    let changed = subst (λ (xs : List ℕ). AreChangedPlaces P Q xs) (sym c.deref.ensures.value) c.in_ok-places.ensures.changed in
    let begun = time_or_place P Q like places IsGoing changed.going c.args.since.now c.requires.followed.begun in
    let ended = time_or_place P Q like places Completes changed.complete c.args.done.now c.requires.followed.ended in
    goes_on s until c.args.work.at c.args.plan.now.plan c.carry_out.new.plan.plan c.request_of-request.result c.args.since.now c.args.done.now ahead first c.request_of-request.ensures.at step.0 step.1
    c.set_times.new.since c.set_times.new.done c.set_times.ensures.since_size c.set_times.ensures.done_size
    (moves (IsGoing Q) (counted_from Q c.args.work.at) (entries Q.operations) places c.args.since.now c.set_times.new.since c.set_times.ensures.since begun (going_told Q c.read_for_proof.ensures.contents.valid.acyclic))
    (moves (Completes Q) (λ o. c.args.work.at) (entries Q.operations) places c.args.done.now c.set_times.new.done c.set_times.ensures.done ended (λ (o : OpKey). status_told Q c.read_for_proof.ensures.contents.valid.acyclic o Complete))

pub returns-clause-followed : goal.returns-clause-followed
returns-clause-followed c =
    let s = c.requires.ahead.0 in
    let until = c.requires.ahead.1 in
    let ahead = c.requires.ahead.2 in
    let first = subst (λ (w : What). IsFirstWork s until c.args.work.at w) (sym c.request_of-request.ensures.what) c.requires.ahead.4 in
    let step = c.in_ok-places.ensures.step in
    let like = like_after s until c.args.work.at c.args.plan.now.plan c.carry_out.new.plan.plan c.request_of-request.result c.args.since.now c.args.done.now ahead first c.request_of-request.ensures.at step.0 step.1 in
    let P = c.args.plan.now.plan.contents in
    let Q = c.carry_out.new.plan.plan.contents in
    let places = c.deref.result.now in
    let changed = subst (λ (xs : List ℕ). AreChangedPlaces P Q xs) (sym c.deref.ensures.value) c.in_ok-places.ensures.changed in
    let begun = time_or_place P Q like places IsGoing changed.going c.args.since.now c.requires.followed.begun in
    let ended = time_or_place P Q like places Completes changed.complete c.args.done.now c.requires.followed.ended in
    record {
      going = still_going P Q like places c.args.going.now.items c.follow_going.new.going.items changed.going c.requires.followed.going
          (subst (λ (xs : List ℕ). AreGoingAmong Q c.args.going.now.items xs c.follow_going.new.going.items) (c.deref-2.ensures.value ∙ sym c.deref.ensures.value) c.in_ok-follow_going.ensures);
      begun = have_times (IsGoing Q) (counted_from Q c.args.work.at) (entries Q.operations) places c.args.since.now c.set_times.new.since c.set_times.ensures.since begun (ahead.begun_size ∙ sym like.count);
      ended = have_times (Completes Q) (λ o. c.args.work.at) (entries Q.operations) places c.args.done.now c.set_times.new.done c.set_times.ensures.done ended (ahead.ended_size ∙ sym like.count);
    }

pub returns-clause-like : goal.returns-clause-like
returns-clause-like c =
    let s = c.requires.ahead.0 in
    let until = c.requires.ahead.1 in
    let ahead = c.requires.ahead.2 in
    let first = subst (λ (w : What). IsFirstWork s until c.args.work.at w) (sym c.request_of-request.ensures.what) c.requires.ahead.4 in
    let step = c.in_ok-places.ensures.step in
    let like = like_after s until c.args.work.at c.args.plan.now.plan c.carry_out.new.plan.plan c.request_of-request.result c.args.since.now c.args.done.now ahead first c.request_of-request.ensures.at step.0 step.1 in
    like

pub returns-clause-onward : goal.returns-clause-onward
returns-clause-onward c =
    let s = c.requires.ahead.0 in
    let until = c.requires.ahead.1 in
    let ahead = c.requires.ahead.2 in
    let first = subst (λ (w : What). IsFirstWork s until c.args.work.at w) (sym c.request_of-request.ensures.what) c.requires.ahead.4 in
    let step = c.in_ok-places.ensures.step in
    clock_onward s until c.args.work.at c.args.plan.now.plan c.carry_out.new.plan.plan c.request_of-request.result c.args.since.now c.args.done.now ahead first c.request_of-request.ensures.at step.0 step.1
