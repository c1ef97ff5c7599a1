use Rattle.std.proofs.Common.{subst, Option, MatchOption}
use Rattle.forecasting.specs.declared.next.Work.{Work}
use Rattle.forecasting.specs.Turns.{IsFirstWork}
use Rattle.forecasting.specs.InMemory.{IsIdleUpTo}
use Rattle.forecasting.proofs.Keeping.{horizon_still}
use Rattle.forecasting.proofs.stepping.step_ahead.Goals as goal

pub make-requires-clause-ahead : goal.make-requires-clause-ahead
make-requires-clause-ahead c =
    let s = c.requires.ahead.0 in
    let ahead = c.requires.ahead.1 in
    let until = c.args.horizon.now.until in
    (s, until, ahead, c.minute.ensures.legal, subst (λ (z : Option Work). MatchOption z (IsIdleUpTo until s) (λ w. IsFirstWork s until w.at w.what)) c.in-Some.is (c.next_work.ensures s ahead.plan ahead.since))

pub returns-in_ok-make-in-Some-clause-made : goal.returns-in_ok-make-in-Some-clause-made
returns-in_ok-make-in-Some-clause-made c = λ s ahead.
    let until = c.args.horizon.now.until in
    c.in_ok-make-in-Some.ensures.made s until ahead (subst (λ (z : Option Work). MatchOption z (IsIdleUpTo until s) (λ w. IsFirstWork s until w.at w.what)) c.in-Some.is (c.next_work.ensures s ahead.plan ahead.since))

pub returns-in_ok-make-in-Some-clause-lasting : goal.returns-in_ok-make-in-Some-clause-lasting
returns-in_ok-make-in-Some-clause-lasting c =
    horizon_still c.args.plan.now.plan c.make.new.plan.plan c.in_ok-make-in-Some.ensures.like c.in_ok-make-in-Some.ensures.onward c.args.horizon.now c.requires.lasting

pub returns-in-None-clause-made : goal.returns-in-None-clause-made
returns-in-None-clause-made c = λ s ahead.
    let until = c.args.horizon.now.until in
    (subst (λ (z : Option Work). MatchOption z (IsIdleUpTo until s) (λ w. IsFirstWork s until w.at w.what)) c.in-None.is (c.next_work.ensures s ahead.plan ahead.since), ahead)
