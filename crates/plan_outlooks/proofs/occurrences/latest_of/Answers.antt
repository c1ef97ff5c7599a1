use Rattle.std.proofs.Common.{inr, ◌∙◌, ap, arith, Some}
use Rattle.plan_outlooks.proofs.LatestTimes.{latest_is, latest_more, no_latest}
use Rattle.plan_outlooks.proofs.occurrences.latest_of.Goals as goal

pub loop-place-init : goal.loop-place-init
loop-place-init c = no_latest c.args.times.now c.args.first c.args.end

pub returns : goal.returns
returns c = let past = c.loop-place-test.false in latest_is c.args.times.now c.args.first c.args.end c.loop-place.place (omega (arith, past)) c.loop-place.latest c.loop-place.invariant

pub loop-place-preserved : goal.loop-place-preserved
loop-place-preserved c =
    latest_more c.args.times.now c.args.first c.args.end c.loop-place.place c.loop-place-test.true c.in-Some.moment (c.time_at-time.ensures ∙ ap Some c.in-Some.is) c.loop-place.latest c.loop-place.invariant c.latest_with.result c.latest_with.ensures

pub returns-in-None : goal.returns-in-None
returns-in-None c = inr (c.loop-place.place, c.loop-place.invariant.from, c.loop-place-test.true, c.time_at-time.ensures ∙ ap Some c.in-None.is)
