-- A strictly ascending list is known by its elements.
use Rattle.std.proofs.Common.{◌≡◌, inl, inr, refl, sym, ◌∙◌, ap, ap₂, subst, List, [], ◌∷◌, Contains, Ordering, Less}
use Rattle.std.specs.List.{AllByRecursion}
use Rattle.std.specs.List.Sorted.{IsStrictlySortedBy}
use Rattle.std.specs.Cmp.{IsTotalOrder}
use Rattle.std.specs.Ordering.{ordering_reverse}
pub use Rattle.plan_records.specs.plan_drafts.proofs.Lists.{at_member, contains_head, contains_later, contains_cases, contains_none}

module _ {K : Type 0} {R : K → K → Ordering} (o : IsTotalOrder R) where
  no_less : (x y : K) → R x y ≡ Less → R y x ≡ Less → ⊥
  no_less x y h k = let e : Less ≡ ordering_reverse Less = sym h ∙ o.antisymm x y ∙ ap ordering_reverse k in cc

  pub not_itself : (x : K) → R x x ≡ Less → ⊥
  not_itself x h = no_less x x h h

  same_first : (x y : K) (xs ys : List K) → AllByRecursion (λ k. R x k ≡ Less) xs → AllByRecursion (λ k. R y k ≡ Less) ys → Contains (y ∷ ys) x → Contains (x ∷ xs) y → x ≡ y
  same_first x y xs ys up above p q =
      elim (contains_cases y ys x p) [
        | inl e ↦ sym e
        | inr later ↦ elim (contains_cases x xs y q) [ inl e ↦ e | inr other ↦ absurd (no_less x y (at_member (λ k. R x k ≡ Less) xs y up other) (at_member (λ k. R y k ≡ Less) ys x above later)) ]
      ]

  rest_within : (x : K) (xs ys : List K) → AllByRecursion (λ k. R x k ≡ Less) xs → ((k : K) → Contains (x ∷ xs) k → Contains (x ∷ ys) k) → (k : K) → Contains xs k → Contains ys k
  rest_within x xs ys up h k has =
      elim (contains_cases x ys k (h k (contains_later x xs k has))) [
        | inl e ↦ absurd (not_itself x (subst (λ z. R x z ≡ Less) (sym e) (at_member (λ z. R x z ≡ Less) xs k up has)))
        | inr later ↦ later
      ]

  pub sorted_unique : (xs ys : List K) → IsStrictlySortedBy R xs → IsStrictlySortedBy R ys → ((k : K) → Contains xs k → Contains ys k) → ((k : K) → Contains ys k → Contains xs k) → xs ≡ ys
  unfolding IsStrictlySortedBy
  sorted_unique [] [] up above f g = refl
  sorted_unique [] (y ∷ ys) up above f g = absurd (contains_none y (g y (contains_head y ys)))
  sorted_unique (x ∷ xs) [] up above f g = absurd (contains_none x (f x (contains_head x xs)))
  sorted_unique (x ∷ xs) (y ∷ ys) up above f g =
      let e : x ≡ y = same_first x y xs ys up.0 above.0 (f x (contains_head x xs)) (g y (contains_head y ys)) in
      let f' : (k : K) → Contains (x ∷ xs) k → Contains (x ∷ ys) k = subst (λ z. (k : K) → Contains (x ∷ xs) k → Contains (z ∷ ys) k) (sym e) f in
      let g' : (k : K) → Contains (x ∷ ys) k → Contains (x ∷ xs) k = subst (λ z. (k : K) → Contains (z ∷ ys) k → Contains (x ∷ xs) k) (sym e) g in
      let above' : AllByRecursion (λ k. R x k ≡ Less) ys = subst (λ z. AllByRecursion (λ k. R z k ≡ Less) ys) (sym e) above.0 in
      ap₂ (λ z zs. z ∷ zs) e (sorted_unique xs ys up.1 above.1 (rest_within x xs ys up.0 f') (rest_within x ys xs above' g'))
