-- What is known of rows index by index, as one is added after another.
use Rattle.std.proofs.Common.{◌≡◌, ◌⊎◌, inl, inr, refl, sym, ap, subst, ◌∙◌, ℕ, zero, suc, ◌+◌, List, [], ◌∷◌, ◌++◌, length, slice_get, Some}
use Rattle.std.proofs.lemmas.List.{length-append}
use Rattle.plan_laws.specs.plan_drafts.specs.Places.{AreByPlace}

-- the first i rows are gone through
pub record AreSoFar {K V X : Type 0} (i : ℕ) (rows : List (K × V)) (xs : List X) (is : K → X → Type 0) : Type 0 where
  pub size : length xs ≡ i
  pub each : (j : ℕ) (k : K) (v : V) (x : X) → slice_get rows j ≡ Some (k, v) → slice_get xs j ≡ Some x → is k x

pushed_cases : {X : Type 0} (xs : List X) (x : X) (j : ℕ) (y : X) → slice_get (xs ++ x ∷ []) j ≡ Some y → ((j ≡ length xs) × (x ≡ y)) ⊎ (slice_get xs j ≡ Some y)
pushed_cases [] x zero y e = inl (refl, let same : x ≡ y = cc in same)
pushed_cases [] x (suc j) y e = cc
pushed_cases (z ∷ xs) x zero y e = inr e
pushed_cases (z ∷ xs) x (suc j) y e = elim (pushed_cases xs x j y e) [ inl at ↦ inl (ap suc at.0, at.1) | inr old ↦ inr old ]

module _ {K V X : Type 0} (rows : List (K × V)) (is : K → X → Type 0) where
  pub none_so_far : (xs : List X) → xs ≡ [] → AreSoFar 0 rows xs is
  none_so_far xs e = record { size = ap length e; each = λ j k v x row at. let none : slice_get [] j ≡ Some x = ap (λ ys. slice_get ys j) (sym e) ∙ at in cc }

  pub one_more : (i : ℕ) (xs : List X) → AreSoFar i rows xs is → (x : X) → ((k : K) (v : V) → slice_get rows i ≡ Some (k, v) → is k x) → AreSoFar (i + 1) rows (xs ++ x ∷ []) is
  one_more i xs so_far x next = record {
    size = length-append xs (x ∷ []) ∙ ap (λ n. n + 1) so_far.size;
    each = λ j k v y row at. elim (pushed_cases xs x j y at) [
      | inl here ↦ subst (is k) here.1 (next k v (ap (slice_get rows) (sym (here.0 ∙ so_far.size)) ∙ row))
      | inr old ↦ so_far.each j k v y row old
    ];
  }

  pub all_rows : (i : ℕ) (xs : List X) → AreSoFar i rows xs is → i ≡ length rows → AreByPlace rows xs is
  all_rows i xs so_far e = record { size = so_far.size ∙ e; each = so_far.each }
