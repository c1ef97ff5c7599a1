-- What passes a filter.
use Rattle.std.proofs.Common.{◌≡◌, ◌∙◌, inl, inr, true, cond, sym, ap, subst, Bool, List, [], ◌∷◌, map, Contains}
use Rattle.std.proofs.lemmas.Bool.{cond_both}
use Rattle.std.proofs.lemmas.List.Elements.{All-contains, All-filter, filter_passes}
use Rattle.std.specs.List.{AllByRecursion, filter}
use Rattle.std.specs.List.Sorted.{IsStrictlySortedBy}
use Rattle.std.specs.declared.cmp.Ordering.{Ordering}
use Rattle.std.specs.declared.cmp.Ordering.TheVariants.{Less}
use Rattle.plan_reasons.specs.plan_drafts.proofs.Lists.{Differ, all_by_members, contains_cases, contains_head, contains_later, contains_none}

module _ {X : Type 0} (p : X → Bool) where
  pub into_filter : (xs : List X) (x : X) → Contains xs x → p x ≡ true → Contains (filter p xs) x
  into_filter [] x has e = absurd (contains_none x has)
  into_filter (y ∷ xs) x has e =
      elim (contains_cases y xs x has) [
        | inl same ↦ subst (λ b. Contains (cond b (y ∷ filter p xs) (filter p xs)) x) (sym (ap p same ∙ e)) (subst (Contains (y ∷ filter p xs)) same (contains_head y (filter p xs)))
        | inr later ↦ cond_both (p y) (y ∷ filter p xs) (filter p xs) (λ zs. Contains zs x) (λ _. contains_later y (filter p xs) x (into_filter xs x later e)) (λ _. into_filter xs x later e)
      ]

  pub passes : (xs : List X) (x : X) → Contains (filter p xs) x → p x ≡ true
  passes xs x has = All-contains (λ z. p z ≡ true) (filter p xs) x (filter_passes p xs) has

  pub among : (xs : List X) (x : X) → Contains (filter p xs) x → Contains xs x
  among xs x has = All-contains (Contains xs) (filter p xs) x (All-filter p (Contains xs) xs (all_by_members (Contains xs) xs (λ z h. h))) has

  pub differ_filtered : (S : X → X → Type 0) (xs : List X) → Differ S xs → Differ S (filter p xs)
  differ_filtered S [] h = tt
  differ_filtered S (x ∷ xs) h =
      cond_both (p x) (x ∷ filter p xs) (filter p xs) (Differ S) (λ _. (All-filter p (S x) xs h.0, differ_filtered S xs h.1)) (λ _. differ_filtered S xs h.1)

  -- what is in the order of a key stays so
  module _ {K : Type 0} (key : X → K) where
    each_filtered : (Q : K → Type 0) (xs : List X) → AllByRecursion Q (map key xs) → AllByRecursion Q (map key (filter p xs))
    each_filtered Q [] h = h
    each_filtered Q (x ∷ xs) h =
        cond_both (p x) (x ∷ filter p xs) (filter p xs) (λ ys. AllByRecursion Q (map key ys)) (λ _. (h.0, each_filtered Q xs h.1)) (λ _. each_filtered Q xs h.1)

    pub sorted_filtered : (c : K → K → Ordering) (xs : List X) → IsStrictlySortedBy c (map key xs) → IsStrictlySortedBy c (map key (filter p xs))
    unfolding IsStrictlySortedBy
    sorted_filtered c [] h = h
    sorted_filtered c (x ∷ xs) h =
        cond_both (p x) (x ∷ filter p xs) (filter p xs) (λ ys. IsStrictlySortedBy c (map key ys))
        (λ _. (each_filtered (λ k. c (key x) k ≡ Less) xs h.0, sorted_filtered c xs h.1)) (λ _. sorted_filtered c xs h.1)
