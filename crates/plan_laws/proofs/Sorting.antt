-- Finitely many things have one strictly ascending list.
use Rattle.std.proofs.Common.{◌≡◌, ◌⊎◌, ◌↔◌, inl, inr, refl, sym, ◌∙◌, ap, subst, arith, ◌+◌, List, [], ◌∷◌, length, Contains, Ordering, Less, Equal, Greater}
use Rattle.std.specs.List.Sorted.{IsStrictlySortedBy}
use Rattle.std.specs.Cmp.{IsTotalOrder}
use Rattle.std.specs.FinMap.{IsAntisymmetric}
use Rattle.std.specs.Ordering.{ordering_reverse}
use Rattle.plan_records.specs.plan_model.specs.ready_list.proofs.Members.{all_by_members}
use Rattle.plan_laws.proofs.Listed.{Listed}
use Rattle.plan_laws.proofs.Sorted.{at_member, contains_cases, contains_head, contains_later}

module _ {K : Type 0} {R : K → K → Ordering} (o : IsTotalOrder R) (same : IsAntisymmetric R) where
  -- an ascending list of these
  abbrev pub Ascending : (K → Type 0) → Type 0
  Ascending S = (xs : List K) × IsStrictlySortedBy R xs × ((k : K) → Contains xs k ↔ S k)

  either_way : (x : K) (xs : List K) (k : K) → Contains (x ∷ xs) k ↔ ((x ≡ k) ⊎ Contains xs k)
  either_way x xs k = (contains_cases x xs k, λ h. elim h [ inl e ↦ subst (Contains (x ∷ xs)) e (contains_head x xs) | inr later ↦ contains_later x xs k later ])

  -- the list with x in its place: one longer, where x is new
  abbrev pub With : K → List K → Type 0
  With x ys = (zs : List K) × IsStrictlySortedBy R zs × ((k : K) → Contains zs k ↔ ((x ≡ k) ⊎ Contains ys k)) × (¬ Contains ys x → length zs ≡ length ys + 1)

  pub put_in : (x : K) (ys : List K) → IsStrictlySortedBy R ys → With x ys
  unfolding IsStrictlySortedBy
  put_in x [] up = (x ∷ [], (tt, tt), either_way x [], λ new. refl)
  put_in x (y ∷ ys) up = elim (R x y) as (λ r. R x y ≡ r → With x (y ∷ ys)) [
    | Less ↦ λ e. (
      x ∷ y ∷ ys,
      (
        all_by_members (λ k. R x k ≡ Less) (y ∷ ys) (λ k has. elim (contains_cases y ys k has) [
          | inl is ↦ subst (λ z. R x z ≡ Less) is e
          | inr later ↦ o.trans x y k e (at_member (λ z. R y z ≡ Less) ys k up.0 later)
        ]),
        up,
      ),
      either_way x (y ∷ ys),
      λ new. omega arith,
    )
    | Equal ↦ λ e. (
      y ∷ ys,
      up,
      λ k. (inr, λ h. elim h [ inl is ↦ subst (Contains (y ∷ ys)) (sym (same x y e) ∙ is) (contains_head y ys) | inr has ↦ has ]),
      λ new. absurd (new (subst (Contains (y ∷ ys)) (sym (same x y e)) (contains_head y ys))),
    )
    | Greater ↦ λ e.
        let rest = put_in x ys up.1 in (
          y ∷ rest.0,
          (
            all_by_members (λ k. R y k ≡ Less) rest.0 (λ k has. elim ((rest.2 k).0 has) [
              | inl is ↦ subst (λ z. R y z ≡ Less) is (o.antisymm y x ∙ ap ordering_reverse e)
              | inr later ↦ at_member (λ z. R y z ≡ Less) ys k up.0 later
            ]),
            rest.1,
          ),
          λ k. (
            λ h. elim (contains_cases y rest.0 k h) [
              | inl is ↦ inr (subst (Contains (y ∷ ys)) is (contains_head y ys))
              | inr later ↦ elim ((rest.2 k).0 later) [ inl is ↦ inl is | inr has ↦ inr (contains_later y ys k has) ]
            ],
            λ h. elim h [
              | inl is ↦ contains_later y rest.0 k ((rest.2 k).1 (inl is))
              | inr has ↦ elim (contains_cases y ys k has) [
                | inl is ↦ subst (Contains (y ∷ rest.0)) is (contains_head y rest.0)
                | inr later ↦ contains_later y rest.0 k ((rest.2 k).1 (inr later))
              ]
            ],
          ),
          λ new. let one_more = rest.3 (λ has. new (contains_later y ys x has)) in omega (arith, one_more),
        )
  ] refl

  in_order : (xs : List K) → Ascending (λ k. Contains xs k)
  unfolding IsStrictlySortedBy
  in_order [] = ([], tt, λ k. (λ h. h, λ h. h))
  in_order (x ∷ xs) =
      let rest = in_order xs in
      let more = put_in x rest.0 rest.1 in (
        more.0,
        more.1,
        λ k. (
          λ h. elim ((more.2 k).0 h) [ inl is ↦ subst (Contains (x ∷ xs)) is (contains_head x xs) | inr has ↦ contains_later x xs k ((rest.2 k).0 has) ],
          λ h. elim (contains_cases x xs k h) [ inl is ↦ (more.2 k).1 (inl is) | inr has ↦ (more.2 k).1 (inr ((rest.2 k).1 has)) ],
        ),
      )

  pub ascending : {S : K → Type 0} → Listed S → Ascending S
  ascending l = let a = in_order l.0 in (a.0, a.1, λ k. (λ h. (l.1 k).0 ((a.2 k).0 h), λ s. (a.2 k).1 ((l.1 k).1 s)))

  -- what comes before an element is less
  pub less_before : (xs : List K) (x k : K) → IsStrictlySortedBy R (x ∷ xs) → Contains xs k → R x k ≡ Less
  unfolding IsStrictlySortedBy
  less_before xs x k up has = at_member (λ z. R x z ≡ Less) xs k up.0 has

  pub ascending_rest : (xs : List K) (x : K) → IsStrictlySortedBy R (x ∷ xs) → IsStrictlySortedBy R xs
  unfolding IsStrictlySortedBy
  ascending_rest xs x up = up.1
