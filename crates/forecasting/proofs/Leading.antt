-- The requests so far, and what they lead to.
use Rattle.std.proofs.Common.{◌≡◌, refl, sym, ◌∙◌, ap, subst, arith, ℕ, ◌<◌, List, [], ◌∷◌, ◌++◌, append_assoc, Option}
use Rattle.std.proofs.lemmas.List.{append-nil}
use Rattle.plan_model.specs.Plan.{IsSoundPlan, Plan}
use Rattle.plan_forecast.specs.Ahead.{Ahead, LeadsOn}
use Rattle.plan_records.specs.declared.Request.{Request}
use Rattle.forecasting.specs.InMemory.{GoesOn, IsIdleUpTo, IsInMemory}
use Rattle.forecasting.proofs.Keeping.{left, left_falls}

-- by the requests that were added s has led to what is in memory: whatever that leads on to, s does by these and the rest
abbrev pub HasLed : ℕ → Ahead → List Request → List Request → Plan → List (Option ℕ) → List (Option ℕ) → Type 0
HasLed until s before now P begun ended =
    (qs : List Request) × (t : Ahead) × (now ≡ before ++ qs) × IsInMemory t P begun ended × ((rest : List Request) (u : Ahead) → LeadsOn until t rest u → LeadsOn until s (qs ++ rest) u)

pub led_first : (until : ℕ) (s : Ahead) (before : List Request) (P : Plan) (begun ended : List (Option ℕ)) → IsInMemory s P begun ended → HasLed until s before before P begun ended
led_first until s before P begun ended ahead = ([], s, sym (append-nil before), ahead, λ rest u on. on)

pub led_on : (until : ℕ) (s : Ahead) (before now : List Request) (P P' : Plan) (begun ended begun' ended' : List (Option ℕ)) (q : Request)
    → HasLed until s before now P begun ended → ((t : Ahead) → IsInMemory t P begun ended → GoesOn until t q P' begun' ended') → HasLed until s before (now ++ q ∷ []) P' begun' ended'
led_on until s before now P P' begun ended begun' ended' q led next =
    let qs = led.0 in
    let t = led.1 in
    let go = next t led.3 in (
      qs ++ q ∷ [],
      go.1,
      ap (λ xs. xs ++ q ∷ []) led.2 ∙ append_assoc before qs (q ∷ []),
      go.5,
      λ rest u on. subst (λ xs. LeadsOn until s xs u) (sym (append_assoc qs (q ∷ []) rest)) (led.4 (q ∷ rest) u (go.0, go.1, go.2, go.3, go.4, on)),
    )

pub led_to_end : (until : ℕ) (s : Ahead) (before now : List Request) (P P' : Plan) (begun ended begun' ended' : List (Option ℕ))
    → HasLed until s before now P begun ended → ((t : Ahead) → IsInMemory t P begun ended → IsIdleUpTo until t × IsInMemory t P' begun' ended')
    → (qs : List Request) × (t : Ahead) × (now ≡ before ++ qs) × LeadsOn until s qs t × IsInMemory t P' begun' ended'
led_to_end until s before now P P' begun ended begun' ended' led over =
    let qs = led.0 in
    let t = led.1 in
    let last = over t led.3 in
    (qs, t, led.2, subst (λ xs. LeadsOn until s xs t) (append-nil qs) (led.4 [] t (refl, last.0)), last.1)

pub falls : (until : ℕ) (t : Ahead) (P P' : Plan) (begun ended begun' ended' : List (Option ℕ)) (q : Request) → IsSoundPlan P → IsInMemory t P begun ended → GoesOn until t q P' begun' ended' → left P'.contents < left P.contents
falls until t P P' begun ended begun' ended' q sound ahead go =
    let less = left_falls t go.1 go.0 q (subst IsSoundPlan (sym ahead.plan) sound) go.3 go.4 in
    let after = ap (λ (X : Plan). left X.contents) go.5.plan in
    let before = ap (λ (X : Plan). left X.contents) ahead.plan in
    omega (arith, less, after, before)
