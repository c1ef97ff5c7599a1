use Rattle.std.proofs.Common.{◌≡◌, refl, sym, ◌∙◌, ap, subst}
use Rattle.std.specs.FinMap.{entries}
use Rattle.plan_model.specs.Contents.{Contents}
use Rattle.plan_model.specs.Plan.{Plan}
use Rattle.forecasting.specs.Following.{AreGoingAt}
use Rattle.forecasting.specs.Times.{AreTimesOf}
use Rattle.forecasting.specs.Turns.{IsHorizon}
use Rattle.forecasting.proofs.AfterRequest.{no_work}
use Rattle.forecasting.proofs.stepping.next_work.Goals as goal

pub returns-in_default : goal.returns-in_default
returns-in_default c = λ s same times x low high work. no_work s (ap (λ (X : Plan). X.contents) same ∙ c.in_default.ensures.none refl) x work

pub first_work-requires-clause-going : goal.first_work-requires-clause-going
first_work-requires-clause-going c = subst (λ (Q : Contents). AreGoingAt Q c.args.going.now) (sym c.in-Some.ensures.contents) c.requires.going

pub returns : goal.returns
returns c =
    let since = c.args.since.now in
    λ s same times.
    let there : s.plan.contents ≡ c.in-Some.loaded.now = ap (λ (X : Plan). X.contents) same ∙ sym c.in-Some.ensures.contents in
    let now : s.plan.clock ≡ c.clock-clock.result = ap (λ (X : Plan). X.clock) same ∙ sym c.clock-clock.ensures.value in
    let so = subst (λ (Q : Contents). AreTimesOf s.since (entries Q.operations) since) (sym c.in-Some.ensures.contents) times in
    c.first_work.ensures s there now so (subst (λ (X : Plan). IsHorizon X c.args.horizon.now) (sym same) c.requires.lasting)
