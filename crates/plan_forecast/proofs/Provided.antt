-- A forecast is a run, and all that becomes started in it is provided for.
use Rattle.std.proofs.Common.{◌≡◌, refl, sym, subst, arith, ℕ, List, [], ◌∷◌, map}
use Rattle.plan_basics.specs.declared.keys.OpKey.{OpKey}
use Rattle.plan_laws.proofs.Elements.{all_of}
use Rattle.plan_laws.proofs.Every.{every_step_keeps_sound}
use Rattle.plan_laws.proofs.Starts.{starts_are_provided_for}
use Rattle.plan_model.specs.Plan.{IsSoundPlan, Plan}
use Rattle.plan_records.specs.Answer.{Answer, accepted}
use Rattle.plan_records.specs.Run.{Run, plain, usable}
use Rattle.plan_records.specs.Step.{Receipts}
use Rattle.plan_records.specs.declared.Request.{Request}
use Rattle.plan_forecast.specs.Ahead.{Ahead, LeadsOn, LeadsTo, before_it, tick}
use Rattle.plan_forecast.specs.Laws.{AllAccept, ForecastIsProvided, ForecastIsRun, StartsAreProvidedIn}

abbrev RunTo : Plan → Receipts → List Request → Plan → Type 0
RunTo P receipts requests after = (replies : List Answer) × AllAccept replies × Run (record { plan = P; receipts = receipts }) usable (map plain requests) replies (record { plan = after; receipts = receipts }) usable

run_on : (receipts : Receipts) (q : Request) (qs : List Request) (s mid : Ahead) (after : Plan) → LeadsTo s q mid → RunTo mid.plan receipts qs after → RunTo s.plan receipts (q ∷ qs) after
run_on receipts q qs s mid after h rest = (
  accepted h.chosen ∷ rest.0,
  all_of (λ x. (chosen : List OpKey) × (x ≡ accepted chosen)) (accepted h.chosen) rest.0 (h.chosen, refl) rest.1,
  (record { plan = mid.plan; receipts = receipts }, usable, ((h.step, refl), refl), rest.2),
)

is_run : (until : ℕ) (receipts : Receipts) (qs : List Request) (s t : Ahead) → LeadsOn until s qs t → RunTo s.plan receipts qs t.plan
is_run until receipts [] s t h = ([], λ i d k. absurd (omega arith), (let e = h.0 in λ i. record { plan = (e i).plan; receipts = receipts }, refl))
is_run until receipts (q ∷ qs) s t h = run_on receipts q qs s h.1 t.plan h.4 (is_run until receipts qs h.1 t h.5)

pub forecast_is_run : ForecastIsRun
forecast_is_run P known m until requests last receipts (mid, rest, is, leads, on) =
    subst (λ qs. RunTo P receipts qs last.plan) (sym is) (run_on receipts (tick m) rest (before_it P known) mid last.plan leads (is_run until receipts rest mid last on))

provided_on : (q : Request) (qs : List Request) (s mid : Ahead) (after : Plan) → IsSoundPlan s.plan → LeadsTo s q mid → (IsSoundPlan mid.plan → StartsAreProvidedIn mid.plan qs after) → StartsAreProvidedIn s.plan (q ∷ qs) after
provided_on q qs s mid after sound h rest =
    let kept = every_step_keeps_sound s.plan mid.plan q (accepted h.chosen) sound h.step in
    (mid.plan, h.chosen, h.step, kept, λ o becomes. starts_are_provided_for s.plan mid.plan q (accepted h.chosen) sound h.step o becomes, rest kept)

are_provided : (until : ℕ) (qs : List Request) (s t : Ahead) → IsSoundPlan s.plan → LeadsOn until s qs t → StartsAreProvidedIn s.plan qs t.plan
are_provided until [] s t sound h = let e = h.0 in λ i. (e i).plan
are_provided until (q ∷ qs) s t sound h = provided_on q qs s h.1 t.plan sound h.4 (λ kept. are_provided until qs h.1 t kept h.5)

pub forecast_is_provided : ForecastIsProvided
forecast_is_provided P known m until requests last sound (mid, rest, is, leads, on) =
    subst (λ qs. StartsAreProvidedIn P qs last.plan) (sym is) (provided_on (tick m) rest (before_it P known) mid last.plan sound leads (λ kept. are_provided until rest mid last kept on))
