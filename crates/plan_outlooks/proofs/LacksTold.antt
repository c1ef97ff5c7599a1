-- What operations lack in a forecast, by their turns.
use Rattle.std.proofs.Common.{◌≡◌, sym, ◌∙◌, ap, subst, ℕ, List, Option, slice_get}
use Rattle.std.specs.FinMap.{entries}
use Rattle.std.proofs.lemmas.Option.{slice_get_within}
use Rattle.plan_reasons.specs.declared.reasons.Reason.{Reason}
use Rattle.forecasting.specs.Times.{AreTimesOf}
use Rattle.plan_outlooks.specs.Forecasts.{Forecast, begin_minute}
use Rattle.plan_outlooks.specs.Lacks.{AreLacks, IsLack}
use Rattle.plan_outlooks.specs.Replays.{AreLacksOf, AreTurnsOf}
use Rattle.plan_outlooks.specs.declared.lacks.Turn.{Turn}

pub lacks_told : (F : Forecast) (since done : List (Option ℕ)) (turns : List Turn) (lacks : List (Option Reason)) → AreTimesOf F.last.since (entries F.plan.contents.operations) since → AreTimesOf F.last.done (entries F.plan.contents.operations) done
    → AreTurnsOf F.plan.contents since done F.from turns → AreLacksOf F.plan F.requests turns lacks → AreLacks F lacks
lacks_told F since done turns lacks begun ended are told i o op at =
    let (k, t, here, is) = are.every i (slice_get_within (entries F.plan.contents.operations) i (o, op) at) in
    let (found, there, lack) = told k t here in
    let key : t.key ≡ o = is.key o op at in
    let minute : t.at ≡ begin_minute F o = is.begins (F.last.since o) (F.last.done o) (begun i o op at) (ended i o op at) in
    (found, ap (slice_get lacks) (sym is.place) ∙ there, subst (λ q. IsLack F.plan F.requests q (begin_minute F o) found) key (subst (λ m. IsLack F.plan F.requests t.key m found) minute lack))
