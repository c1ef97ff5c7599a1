-- What tests of moments and of occurrences tell.
use Rattle.std.proofs.Common.{◌≡◌, refl, sym, ◌∙◌, ap, ap₂, true≢false, ℕ, Bool, true, false, ◌&&◌, eqb}
use Rattle.std.specs.Prelude.{Decides}
use Rattle.std.specs.Str.{bytes_eq}
use Rattle.std.proofs.lemmas.Bool.{eq-eqb, eqb-true}
use Rattle.std.proofs.lemmas.Slice.Eq.{bytes_eq-Decides}
use Rattle.plan_basics.specs.declared.keys.OccKey.{OccKey}

pub equal_by : (a b : ℕ) (r : Bool) → r ≡ eqb a b → r ≡ true → a ≡ b
equal_by a b r is on = eqb-true a b (sym is ∙ on)

pub other_by : (a b : ℕ) (r : Bool) → r ≡ eqb a b → r ≡ false → ¬ (a ≡ b)
other_by a b r is off same = true≢false (sym (eq-eqb a b same) ∙ sym is ∙ off)

both_true : (x y : Bool) → (x && y) ≡ true → (x ≡ true) × (y ≡ true)
both_true true y e = (refl, e)
both_true false y e = absurd (true≢false (sym e))

-- two occurrences are one where the names of their applications are, and their input arrivals
pub one_occurrence : (a b : OccKey) (r : Bool) → r ≡ (bytes_eq a.app b.app && eqb a.arrival b.arrival) → Decides r (a ≡ b)
one_occurrence a b r is = (
  (λ e.
      let both = both_true (bytes_eq a.app b.app) (eqb a.arrival b.arrival) (sym is ∙ e) in
      let apps = (bytes_eq-Decides a.app b.app).0 both.0 in
      let arrivals = eqb-true a.arrival b.arrival both.1 in
      λ i. record { app = apps i; arrival = arrivals i }),
  (λ same. is ∙ ap₂ (λ x y. x && y) ((bytes_eq-Decides a.app b.app).1 (ap (λ (c : OccKey). c.app) same)) (eq-eqb a.arrival b.arrival (ap (λ (c : OccKey). c.arrival) same))),
)
