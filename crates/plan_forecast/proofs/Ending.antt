-- A forecast goes to its end.
use Rattle.std.proofs.Common.{◌≡◌, inl, inr, sym, ◌∙◌, ap, subst, arith, ℕ, ◌+◌, ◌≤◌, List, [], ◌∷◌, Option, Some, None}
use Rattle.std.proofs.lemmas.Bool.{cases_lt}
use Rattle.plan_basics.specs.declared.keys.OpKey.{OpKey}
use Rattle.plan_model.specs.Contents.{Contents, IsInPlan}
use Rattle.plan_model.specs.Plan.{Plan}
use Rattle.plan_records.specs.Acceptance.{minute_of}
use Rattle.plan_records.specs.declared.Request.{Request}
use Rattle.plan_forecast.specs.Ahead.{Ahead, HasWork, IsGoing, IsTimeAfter, LeadsOn, LeadsTo, before_it, counted_from, tick}
use Rattle.plan_forecast.specs.Laws.{ForecastGoesToEnd, IsLastUpTo}
use Rattle.plan_forecast.proofs.Turns.{later_of}

-- of all that is going the minute is known since which it is
abbrev AllTimed : Ahead → Type 0
AllTimed s = (o : OpKey) → IsGoing s.plan.contents o → (b : ℕ) × (s.since o ≡ Some b)

timed_by : (is_so : Type 0) (m : ℕ) (old new : Option ℕ) → IsTimeAfter is_so m old new → is_so → (b : ℕ) × (new ≡ Some b)
timed_by is_so m (Some k) new h so = (k, h)
timed_by is_so m None new (inl h) so = (m, h.1)
timed_by is_so m None new (inr h) so = absurd (h.0 so)

all_timed : (s : Ahead) (q : Request) (t : Ahead) → LeadsTo s q t → AllTimed t
all_timed s q t h o going = timed_by (IsGoing t.plan.contents o) (counted_from t.plan.contents t.plan.clock o) (s.since o) (t.since o) (h.since o) going

pub clock_at : (s : Ahead) (q : Request) (t : Ahead) → LeadsTo s q t → t.plan.clock ≡ minute_of q.at
clock_at s q t h = ap (λ (P : Plan). P.clock) h.step.is_after

going_row : (P : Contents) (o : OpKey) → IsGoing P o → IsInPlan P o
going_row P o (inl h) = (h.0, h.1, tt)
going_row P o (inr h) = (h.1.0, h.1.1, tt)

at_end : (until : ℕ) (s : Ahead) → s.plan.clock ≤ until → AllTimed s → ((x : ℕ) → s.plan.clock ≤ x → x ≤ until → ¬ HasWork s x) → IsLastUpTo until s
at_end until s within timed none = record {
  going = λ o going.
      let row = going_row s.plan.contents o going in
      let since = timed o going in (
        row.0,
        row.1,
        (
          since.0,
          since.1,
          elim (cases_lt until (since.0 + row.0.duration)) [
            | inl after ↦ after
            | inr due ↦ absurd (
                let x = later_of s.plan.clock (since.0 + row.0.duration) in
                let last : x.0 ≤ until = elim x.3 [ inl e ↦ omega (arith, e, within) | inr e ↦ omega (arith, e, due) ] in
                none x.0 x.1 last (inl (o, (going, (row.0, row.1, (since.0, since.1, x.2))))))
          ],
        ),
      );
  none_begins = λ x from last. (λ may. none x from last (inr (inl may)), λ may. none x from last (inr (inr may)));
}

to_end : (until : ℕ) (qs : List Request) (s t : Ahead) → s.plan.clock ≤ until → AllTimed s → LeadsOn until s qs t → IsLastUpTo until t
to_end until [] s t within timed h = subst (IsLastUpTo until) (sym h.0) (at_end until s within timed h.1)
to_end until (q ∷ qs) s t within timed h =
    let clock : h.1.plan.clock ≡ h.0 = clock_at s q h.1 h.4 ∙ ap minute_of h.3.at in
    to_end until qs h.1 t (let x = h.2 in omega (arith, clock, x)) (all_timed s q h.1 h.4) h.5

pub forecast_goes_to_end : ForecastGoesToEnd
forecast_goes_to_end P known m until requests last within (mid, rest, is, leads, on) =
    let clock : mid.plan.clock ≡ m = clock_at (before_it P known) (tick m) mid leads in
    to_end until rest mid last (omega (arith, clock, within)) (all_timed (before_it P known) (tick m) mid leads) on
