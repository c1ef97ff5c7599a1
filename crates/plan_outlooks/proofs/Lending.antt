-- A forecast in memory is lent.
use Rattle.std.proofs.Common.{◌≡◌, sym, ◌∙◌, ap, subst, ℕ, List, Option, length}
use Rattle.std.specs.FinMap.{entries}
use Rattle.plan_basics.specs.declared.keys.OpKey.{OpKey}
use Rattle.plan_forecast.specs.Ahead.{Ahead, IsForecast}
use Rattle.plan_model.specs.Contents.{Contents}
use Rattle.plan_model.specs.Plan.{Plan}
use Rattle.plan_records.specs.declared.Request.{Request}
use Rattle.forecasting.specs.InMemory.{IsInMemory}
use Rattle.forecasting.specs.Known.{since_in}
use Rattle.forecasting.specs.Times.{AreTimesOf}
use Rattle.plan_outlooks.specs.Forecasts.{Forecast, limit_of, minute_or}
use Rattle.plan_outlooks.specs.Lent.{IsLent}
use Rattle.plan_outlooks.specs.Lacks.{AreLacks}
use Rattle.plan_outlooks.specs.Overruns.{AreTaken}
use Rattle.plan_outlooks.specs.declared.refs.ForecastRefs.{ForecastRefs}
use Rattle.plan_outlooks.proofs.DoneTimes.{forecast_already, forecast_onward}
use Rattle.plan_outlooks.proofs.Likeness.{forecast_like, forecast_timed, times_before}

-- the forecast of a plan, by what is known of starts
abbrev pub forecast_of : Plan → (OpKey → Option ℕ) → ℕ → Option ℕ → List Request → Ahead → Forecast
forecast_of P known from until requests t = record { plan = P; known = known; from = from; until = until; requests = requests; last = t }

module _ (P last : Plan) (known : OpKey → Option ℕ) (from : ℕ) (until : Option ℕ) (requests : List Request) (t : Ahead) (begun ended : List (Option ℕ)) (is : IsForecast P known from (limit_of until) requests t) (held : IsInMemory t last begun ended) where
  -- they are as many as its rows
  pub begun_size : length begun ≡ length (entries P.contents.operations)
  begun_size = held.begun_size ∙ ap (λ (X : Plan). length (entries X.contents.operations)) (sym held.plan) ∙ (forecast_like P known from (limit_of until) requests t is).count

  pub ended_size : length ended ≡ length (entries P.contents.operations)
  ended_size = held.ended_size ∙ ap (λ (X : Plan). length (entries X.contents.operations)) (sym held.plan) ∙ (forecast_like P known from (limit_of until) requests t is).count

  -- its times, by the rows of its plan
  pub times_of : (f : OpKey → Option ℕ) (xs : List (Option ℕ)) → AreTimesOf f (entries last.contents.operations) xs → AreTimesOf f (entries P.contents.operations) xs
  times_of f xs so =
      let there : last.contents ≡ t.plan.contents = ap (λ (X : Plan). X.contents) (sym held.plan) in
      times_before P.contents t.plan.contents (forecast_like P known from (limit_of until) requests t is) f xs (subst (λ (X : Contents). AreTimesOf f (entries X.operations) xs) there so)

module _ (P last : Plan) (known : OpKey → Option ℕ) (from : ℕ) (until : Option ℕ) (requests : List Request) (t : Ahead) (begun ended : List (Option ℕ)) (is : IsForecast P known from (limit_of until) requests t) (held : IsInMemory t last begun ended) (x : ForecastRefs) where
  pub lent_by : x.plan.now ≡ P.contents → x.last.now ≡ last.contents → x.since.now ≡ begun → x.done.now ≡ ended → x.from ≡ from → x.to ≡ minute_or last.clock until → known ≡ since_in x.known.now → length x.taken.now ≡ length (entries P.contents.operations) → AreTaken P.contents known from x.taken.now → length x.lacks.now ≡ length (entries P.contents.operations) → AreLacks (forecast_of P known from until requests t) x.lacks.now → IsLent (forecast_of P known from until requests t) x
  lent_by plan end since done begins ends is_known taken_size taken lacks_size lacks =
      let like = forecast_like P known from (limit_of until) requests t is in
      let there : last.contents ≡ t.plan.contents = ap (λ (X : Plan). X.contents) (sym held.plan) in
      let count : length (entries last.contents.operations) ≡ length (entries P.contents.operations) = ap (λ (X : Contents). length (entries X.operations)) there ∙ like.count in
      record {
        plan = plan;
        last = end ∙ there;
        like = like;
        since_size = ap length since ∙ held.begun_size ∙ count;
        done_size = ap length done ∙ held.ended_size ∙ count;
        since = subst (AreTimesOf t.since (entries P.contents.operations)) (sym since) (times_of P last known from until requests t begun ended is held t.since begun held.since);
        done = subst (AreTimesOf t.done (entries P.contents.operations)) (sym done) (times_of P last known from until requests t begun ended is held t.done ended held.done);
        timed = forecast_timed P known from (limit_of until) requests t is;
        onward = forecast_onward P known from (limit_of until) requests t is;
        already = forecast_already P known from (limit_of until) requests t is;
        from = begins;
        to = ends ∙ ap (λ (X : Plan). minute_or X.clock until) (sym held.plan);
        known = is_known;
        taken_size = taken_size;
        taken = taken;
        lacks_size = lacks_size;
        lacks = lacks;
      }
