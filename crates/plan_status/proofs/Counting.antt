-- Numbers of operations: what a number says of the operations that it counts.
use Rattle.std.proofs.Common.{◌≡◌, ◌⊎◌, ◌↔◌, inl, inr, sym, ◌∙◌, subst, arith, ℕ, ◌<◌, ◌≤◌, List, [], ◌∷◌, length, Contains, Ordering, Less}
use Rattle.std.specs.Cmp.{IsTotalOrder}
use Rattle.std.specs.List.{AllByRecursion}
use Rattle.std.specs.List.Sorted.{IsStrictlySortedBy}
use Rattle.plan_basics.specs.Keys.{operation_cmp_total}
use Rattle.plan_basics.specs.declared.keys.OpKey.{OpKey}
use Rattle.plan_laws.proofs.Sorted.{not_itself}
use Rattle.plan_laws.proofs.Waiting.{one_count}
use Rattle.plan_laws.specs.plan_drafts.proofs.ItemsHeld.{first_member, some_member}
use Rattle.plan_laws.specs.plan_records.specs.Rows.{IsCount}
use Rattle.plan_laws.specs.plan_drafts.proofs.Lists.{at_member}
use Rattle.plan_basics.proofs.Members.{contains_cases, contains_head, contains_later, contains_none}

-- each of these is one of those
abbrev pub Within : {K : Type 0} → List K → List K → Type 0
Within {K} xs ys = (k : K) → Contains xs k → Contains ys k

module _ {K : Type 0} {R : K → K → Ordering} (o : IsTotalOrder R) where
  same_heads : (x y : K) (xs ys : List K) → AllByRecursion (λ k. R x k ≡ Less) xs → Within (x ∷ xs) (y ∷ ys) → x ≡ y → Within xs ys
  same_heads x y xs ys up h e k has = elim (contains_cases y ys k (h k (contains_later x xs k has))) [
    | inl f ↦ absurd (not_itself o x (subst (λ z. R x z ≡ Less) (sym (e ∙ f)) (at_member (λ z. R x z ≡ Less) xs k up has)))
    | inr later ↦ later
  ]

  -- a list that begins among the later ones has nothing of the head
  past_head : (x y : K) (xs ys : List K) → AllByRecursion (λ k. R x k ≡ Less) xs → AllByRecursion (λ k. R y k ≡ Less) ys
      → Within (x ∷ xs) (y ∷ ys) → Contains ys x → Within (x ∷ xs) ys
  past_head x y xs ys up above h among k has = elim (contains_cases y ys k (h k has)) [
    | inl e ↦ absurd (not_itself o y (subst (λ z. R y z ≡ Less) (sym e) (beyond (contains_cases x xs k has))))
    | inr later ↦ later
  ]
    where
      first : R y x ≡ Less
      first = at_member (λ z. R y z ≡ Less) ys x above among

      beyond : (x ≡ k) ⊎ Contains xs k → R y k ≡ Less
      beyond (inl e) = subst (λ z. R y z ≡ Less) e first
      beyond (inr later) = o.trans y x k first (at_member (λ z. R x z ≡ Less) xs k up later)

  no_longer : (xs ys : List K) → IsStrictlySortedBy R xs → IsStrictlySortedBy R ys → Within xs ys → length xs ≤ length ys
  unfolding IsStrictlySortedBy
  no_longer [] ys up above h = omega arith
  no_longer (x ∷ xs) [] up above h = absurd (contains_none x (h x (contains_head x xs)))
  no_longer (x ∷ xs) (y ∷ ys) up above h = elim (contains_cases y ys x (h x (contains_head x xs))) [
    | inl e ↦ let l = no_longer xs ys up.1 above.1 (same_heads x y xs ys up.0 h (sym e)) in omega (arith, l)
    | inr later ↦ let l = no_longer (x ∷ xs) ys up above.1 (past_head x y xs ys up.0 above.0 h later) in omega (arith, l)
  ]

  -- one ascending list within another that is no longer: it has all of it
  pub all_within : (xs ys : List K) → IsStrictlySortedBy R xs → IsStrictlySortedBy R ys → Within xs ys → length ys ≤ length xs → Within ys xs
  unfolding IsStrictlySortedBy
  all_within xs [] up above h l k has = absurd (contains_none k has)
  all_within [] (y ∷ ys) up above h l k has = absurd (omega (arith, l))
  all_within (x ∷ xs) (y ∷ ys) up above h l k has = elim (contains_cases y ys x (h x (contains_head x xs))) [
    | inl e ↦ elim (contains_cases y ys k has) [
      | inl f ↦ subst (Contains (x ∷ xs)) (sym e ∙ f) (contains_head x xs)
      | inr later ↦ contains_later x xs k (all_within xs ys up.1 above.1 (same_heads x y xs ys up.0 h (sym e)) (omega (arith, l)) k later)
    ]
    | inr later ↦ absurd (let n = no_longer (x ∷ xs) ys up above.1 (past_head x y xs ys up.0 above.0 h later) in omega (arith, l, n))
  ]

module _ (S : OpKey → Type 0) where
  -- they are more than none if there is one
  pub some_counted : (n : ℕ) → IsCount S n → (0 < n) ↔ ((o : OpKey) × S o)
  some_counted n x = (
    λ h. let m = first_member x.0 (omega (arith, h, x.3)) in (m.0, (x.2 m.0).0 m.1),
    λ h. let l = some_member x.0 h.0 ((x.2 h.0).1 h.1) in omega (arith, l, x.3),
  )

  -- as many as of a wider kind: then each of that kind is one
  pub each_counted : (T : OpKey → Type 0) (m n : ℕ) → IsCount S m → IsCount T n → ((o : OpKey) → S o → T o) → (m ≡ n) ↔ ((o : OpKey) → T o → S o)
  each_counted T m n x y within = (
    λ e o t. (x.2 o).0 (all_within operation_cmp_total x.0 y.0 x.1 y.1 (λ k has. (y.2 k).1 (within k ((x.2 k).0 has))) (omega (arith, e, x.3, y.3)) o ((y.2 o).1 t)),
    λ h. one_count S m n x (y.0, y.1, λ o. (λ has. h o ((y.2 o).0 has), λ s. (y.2 o).1 (within o s)), y.3),
  )
