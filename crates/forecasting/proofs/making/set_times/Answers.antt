use Rattle.std.proofs.Common.{refl, subst}
use Rattle.std.specs.FinMap.{entries}
use Rattle.plan_model.specs.Contents.{Contents}
use Rattle.plan_forecast.specs.Ahead.{IsGoing, counted_from}
use Rattle.forecasting.specs.Following.{AreSetAt}
use Rattle.forecasting.proofs.AfterRequest.{Completes, none_set}
use Rattle.forecasting.proofs.making.set_times.Goals as goal

pub returns-in-Some-clause-since : goal.returns-in-Some-clause-since
returns-in-Some-clause-since c = subst (λ (P : Contents). AreSetAt (IsGoing P) (counted_from P c.args.at) (entries P.operations) c.args.places.now c.args.since.now c.set_since.new.since) c.in-Some.ensures.contents c.set_since.ensures.times

pub returns-in-Some-clause-done : goal.returns-in-Some-clause-done
returns-in-Some-clause-done c = subst (λ (P : Contents). AreSetAt (Completes P) (λ o. c.args.at) (entries P.operations) c.args.places.now c.args.done.now c.set_done.new.done) c.in-Some.ensures.contents c.set_done.ensures.times

pub returns-in-None-clause-since : goal.returns-in-None-clause-since
returns-in-None-clause-since c = let P = c.args.plan.now.plan.contents in none_set (IsGoing P) P (c.in-None.ensures.none refl) (counted_from P c.args.at) c.args.places.now c.args.since.now c.args.since.now

pub returns-in-None-clause-done : goal.returns-in-None-clause-done
returns-in-None-clause-done c = let P = c.args.plan.now.plan.contents in none_set (Completes P) P (c.in-None.ensures.none refl) (λ o. c.args.at) c.args.places.now c.args.done.now c.args.done.now
