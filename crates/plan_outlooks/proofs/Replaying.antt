-- A forecast's requests, made once more.
use Rattle.std.proofs.Common.{◌≡◌, inl, inr, refl, sym, ◌∙◌, ap, subst, arith, ℕ, zero, suc, ℤ, pos, negsuc, ◌+◌, ◌<◌, ◌≤◌, true, false, cond, List, [], ◌∷◌, ◌++◌, length, take, slice_get, slice_set, Option, Some}
use Rattle.std.specs.Prelude.{int_lt}
use Rattle.std.proofs.lemmas.Bool.{cases_eq, cases_lt, lt-ltb, ltb-true}
use Rattle.std.proofs.lemmas.List.{length-set}
use Rattle.std.proofs.lemmas.Option.{none-some, same_Some, slice_get_within}
use Rattle.plan_basics.specs.declared.Refusal.{Refusal}
use Rattle.plan_basics.specs.declared.keys.OpKey.{OpKey}
use Rattle.plan_forecast.specs.Ahead.{Ahead, IsForecast, LeadsOn}
use Rattle.plan_forecast.specs.plan_laws.proofs.Single.{one_step}
use Rattle.plan_model.specs.Plan.{Plan}
use Rattle.plan_reasons.specs.declared.reasons.Reason.{Reason}
use Rattle.plan_records.specs.Answer.{accepted, refused}
use Rattle.plan_records.specs.Step.{Step}
use Rattle.plan_records.specs.declared.Request.{Request}
use Rattle.plan_outlooks.specs.Lacks.{IsLack, LeadTo, before_minute}
use Rattle.plan_outlooks.specs.Replays.{AreAllBefore, AreLacksOf, AreSingle}
use Rattle.plan_outlooks.specs.declared.lacks.Turn.{Turn}

-- ---- a forecast leads from its plan to its last one

leads_on : (until : ℕ) (s : Ahead) (qs : List Request) (t : Ahead) → LeadsOn until s qs t → LeadTo s.plan qs t.plan
leads_on until s [] t h = ap (λ (x : Ahead). x.plan) h.0
leads_on until s (q ∷ qs) t (x, mid, within, next, leads, rest) = (mid.plan, leads.chosen, leads.step, leads_on until mid qs t rest)

pub forecast_leads : (P : Plan) (known : OpKey → Option ℕ) (m until : ℕ) (requests : List Request) (last : Ahead) → IsForecast P known m until requests last → LeadTo P requests last.plan
forecast_leads P known m until requests last (mid, rest, is, leads, on) = subst (λ qs. LeadTo P qs last.plan) (sym is) (mid.plan, leads.chosen, leads.step, leads_on until mid rest last on)

-- ---- one request more

pub lead_more : (P Q after : Plan) (qs : List Request) (q : Request) (chosen : List OpKey) → LeadTo P qs Q → Step Q q (accepted chosen) after → LeadTo P (qs ++ q ∷ []) after
lead_more P Q after [] q chosen is step = (after, chosen, subst (λ (X : Plan). Step X q (accepted chosen) after) is step, refl)
lead_more P Q after (r ∷ qs) q chosen (mid, named, first, rest) step = (mid, named, first, lead_more mid Q after qs q chosen rest step)

pub take_more : (qs : List Request) (n : ℕ) (q : Request) → slice_get qs n ≡ Some q → take n qs ++ q ∷ [] ≡ take (suc n) qs
take_more [] n q e = absurd (none-some q e)
take_more (r ∷ qs) zero q e = ap (λ z. z ∷ []) (sym (same_Some r q e))
take_more (r ∷ qs) (suc n) q e = ap (λ zs. r ∷ zs) (take_more qs n q e)

-- the next one is accepted in the plan to which those before it lead
pub next_step : (P last : Plan) (qs : List Request) (n : ℕ) (q : Request) (Q : Plan) → LeadTo P qs last → LeadTo P (take n qs) Q → slice_get qs n ≡ Some q → (after : Plan) × (chosen : List OpKey) × Step Q q (accepted chosen) after
next_step P last [] n q Q all some e = absurd (none-some q e)
next_step P last (r ∷ qs) zero q Q (mid, chosen, step, rest) some e =
    (mid, chosen, subst (λ (X : Plan). Step X q (accepted chosen) mid) (sym some) (subst (λ z. Step P z (accepted chosen) mid) (same_Some r q e) step))
next_step P last (r ∷ qs) (suc n) q Q (mid, chosen, step, rest) (mid', chosen', step', rest') e =
    let same : mid ≡ mid' = (one_step P mid mid' r (accepted chosen) (accepted chosen') step step').1 in
    next_step mid' last qs n q Q (subst (λ (X : Plan). LeadTo X qs last) same rest) rest' e

-- so it isn't refused
pub not_refused : (P after : Plan) (q : Request) (chosen : List OpKey) (r : Refusal) → Step P q (accepted chosen) after → ¬ Step P q (refused r) P
not_refused P after q chosen r step refuses = refuses.least.0 (step.none_refuses r)

-- ---- up to a minute

pub up_to : (m : ℕ) (qs : List Request) (n : ℕ) → AreAllBefore m qs n → ((q : Request) → slice_get qs n ≡ Some q → int_lt q.at (pos m) ≡ false) → n ≤ length qs → before_minute m qs ≡ take n qs
up_to m [] zero all next within = refl
up_to m [] (suc n) all next within = absurd (omega (arith, within))
up_to m (q ∷ qs) zero all next within = ap (λ b. cond b (q ∷ before_minute m qs) []) (next q refl)
up_to m (q ∷ qs) (suc n) all next within =
    ap (λ b. cond b (q ∷ before_minute m qs) []) (all zero q (omega arith) refl)
    ∙ ap (λ zs. q ∷ zs) (up_to m qs n (λ k r less at. all (suc k) r (omega (arith, less)) at) (λ r at. next r at) (omega (arith, within)))

pub all_more : (m : ℕ) (qs : List Request) (n : ℕ) (q : Request) → slice_get qs n ≡ Some q → int_lt q.at (pos m) ≡ true → AreAllBefore m qs n → AreAllBefore m qs (n + 1)
all_more m qs n q at is all k r less at_k = elim (cases_lt k n) [
  | inl earlier ↦ all k r earlier at_k
  | inr later ↦ (
      let same : k ≡ n = omega (arith, less, later) in
      subst (λ z. int_lt z.at (pos m) ≡ true) (same_Some q r (sym at ∙ ap (slice_get qs) (sym same) ∙ at_k)) is)
]

-- what comes before a minute comes before a later one
pub before_later : (a : ℤ) (m n : ℕ) → int_lt a (pos m) ≡ true → m ≤ n → int_lt a (pos n) ≡ true
before_later (pos a) m n h le = lt-ltb a n (let less = ltb-true a m h in omega (arith, less, le))
before_later (negsuc a) m n h le = refl

-- ---- turn by turn

-- so it is after so many turns
pub record AreLacksUpTo (P : Plan) (requests : List Request) (turns : List Turn) (count n : ℕ) (lacks : List (Option Reason)) : Type 0 where
  pub size : length lacks ≡ count
  pub each : (k : ℕ) (t : Turn) → k < n → slice_get turns k ≡ Some t → (found : Option Reason) × (slice_get lacks t.place ≡ Some found) × IsLack P requests t.key t.at found

set_here : {X : Type 0} (xs : List X) (i : ℕ) (a : X) → i < length xs → slice_get (slice_set xs i a) i ≡ Some a
set_here [] i a less = absurd (omega (arith, less))
set_here (x ∷ xs) zero a less = refl
set_here (x ∷ xs) (suc i) a less = set_here xs i a (omega (arith, less))

set_elsewhere : {X : Type 0} (xs : List X) (i k : ℕ) (a : X) → (k ≡ i → ⊥) → slice_get (slice_set xs i a) k ≡ slice_get xs k
set_elsewhere [] i k a other = refl
set_elsewhere (x ∷ xs) zero zero a other = absurd (other refl)
set_elsewhere (x ∷ xs) zero (suc k) a other = refl
set_elsewhere (x ∷ xs) (suc i) zero a other = refl
set_elsewhere (x ∷ xs) (suc i) (suc k) a other = set_elsewhere xs i k a (λ e. other (ap suc e))

module _ (P : Plan) (requests : List Request) (turns : List Turn) (single : AreSingle turns) (count : ℕ) where
  pub lacks_first : (lacks : List (Option Reason)) → length lacks ≡ count → AreLacksUpTo P requests turns count 0 lacks
  lacks_first lacks size = record { size = size; each = λ k t less at. absurd (omega (arith, less)) }

  pub lacks_next : (n : ℕ) (t : Turn) (lacks : List (Option Reason)) (found : Option Reason) → slice_get turns n ≡ Some t → t.place < count → IsLack P requests t.key t.at found
      → AreLacksUpTo P requests turns count n lacks → AreLacksUpTo P requests turns count (n + 1) (slice_set lacks t.place found)
  lacks_next n t lacks found at within is so = record {
    size = length-set lacks t.place found ∙ so.size;
    each = λ k u less at_k. elim (cases_eq u.place t.place) [
      | inl same ↦ (
          let one : t ≡ u = single n k t u at at_k (sym same) in
          (found, ap (slice_get (slice_set lacks t.place found)) same ∙ set_here lacks t.place found (let size = so.size in omega (arith, within, size)), subst (λ (z : Turn). IsLack P requests z.key z.at found) one is))
      | inr other ↦ elim (cases_lt k n) [
        | inl earlier ↦ (let h = so.each k u earlier at_k in (h.0, set_elsewhere lacks t.place u.place found (λ e. omega (arith, e, other)) ∙ h.1, h.2))
        | inr later ↦ absurd (
            let last : k ≡ n = omega (arith, less, later) in
            let same : t ≡ u = same_Some t u (sym at ∙ ap (slice_get turns) (sym last) ∙ at_k) in
            let places = ap (λ (z : Turn). z.place) same in
            omega (arith, places, other))
      ]
    ];
  }

  pub lacks_all : (n : ℕ) (lacks : List (Option Reason)) → length turns ≤ n → AreLacksUpTo P requests turns count n lacks → AreLacksOf P requests turns lacks
  lacks_all n lacks enough so k t at = so.each k t (let within = slice_get_within turns k t at in omega (arith, within, enough)) at
