-- What is made of some elements of a list, in order.
use Rattle.std.proofs.Common.{◌≡◌, inl, inr, refl, sym, subst, ap, ◌∙◌, arith, ℕ, suc, ◌+◌, ◌<◌, List, [], ◌∷◌, ◌++◌, map, length, take, get_or, Contains, Option, Some, None, Ordering, Less}
use Rattle.std.proofs.Math.Seq.{take-suc}
use Rattle.std.proofs.lemmas.List.Elements.{filter_map-append}
use Rattle.std.specs.List.{AllByRecursion, cons_option, filter_map}
use Rattle.std.specs.List.Sorted.{IsStrictlySortedBy}
use Rattle.std.specs.Option.{option_to_list}
use Rattle.plan_basics.proofs.Members.{contains_cases, contains_head, contains_later, contains_none}

module _ {X Y : Type 0} (h : X → Option Y) where
  only : (a : Option Y) → cons_option a [] ≡ option_to_list a
  only None = refl
  only (Some y) = refl

  -- what is made of the first of them, and of one more
  pub some_more : (xs : List X) (k : ℕ) (d : X) → k < length xs → filter_map h (take (k + 1) xs) ≡ filter_map h (take k xs) ++ option_to_list (h (get_or xs k d))
  some_more xs k d lt =
      let more_by_one : k + 1 ≡ suc k = omega arith in
      ap (λ n. filter_map h (take n xs)) more_by_one
      ∙ ap (filter_map h) (take-suc xs k d lt)
      ∙ filter_map-append h (take k xs) (get_or xs k d ∷ [])
      ∙ ap (λ ys. filter_map h (take k xs) ++ ys) (only (h (get_or xs k d)))

  in_rest : (a : Option Y) (ys : List Y) (y : Y) → Contains ys y → Contains (cons_option a ys) y
  in_rest None ys y has = has
  in_rest (Some z) ys y has = contains_later z ys y has

  -- what is made of one is there
  pub is_made : (xs : List X) (x : X) (y : Y) → Contains xs x → h x ≡ Some y → Contains (filter_map h xs) y
  is_made [] x y has made = absurd (contains_none x has)
  is_made (z ∷ xs) x y has made = elim (contains_cases z xs x has) [
    | inl same ↦ subst (λ (a : Option Y). Contains (cons_option a (filter_map h xs)) y) (sym (ap h same ∙ made)) (contains_head y (filter_map h xs))
    | inr later ↦ in_rest (h z) (filter_map h xs) y (is_made xs x y later made)
  ]

  -- and all is made of one
  pub made_of_one : (xs : List X) (y : Y) → Contains (filter_map h xs) y → (x : X) × Contains xs x × (h x ≡ Some y)
  made_of_one [] y has = absurd (contains_none y has)
  made_of_one (z ∷ xs) y has = by_first (λ there. made_of_one xs y there) (h z) refl has
    where
      later : (x : X) × Contains xs x × (h x ≡ Some y) → (x : X) × Contains (z ∷ xs) x × (h x ≡ Some y)
      later found = (found.0, contains_later z xs found.0 found.1, found.2)

      by_first : (Contains (filter_map h xs) y → (x : X) × Contains xs x × (h x ≡ Some y)) → (a : Option Y) → h z ≡ a → Contains (cons_option a (filter_map h xs)) y → (x : X) × Contains (z ∷ xs) x × (h x ≡ Some y)
      by_first among None is there = later (among there)
      by_first among (Some w) is there = elim (contains_cases w (filter_map h xs) y there) [
        | inl same ↦ (z, contains_head z xs, is ∙ ap Some same)
        | inr rest ↦ later (among rest)
      ]

  module _ {K : Type 0} (R : K → K → Ordering) (key : X → K) (its : Y → K) (same : (x : X) (y : Y) → h x ≡ Some y → its y ≡ key x) where
    all_of_some : (Q : K → Type 0) (xs : List X) → AllByRecursion Q (map key xs) → AllByRecursion Q (map its (filter_map h xs))
    all_of_some Q [] all = tt
    all_of_some Q (x ∷ xs) all = by_first (all_of_some Q xs all.1) (h x) refl
      where
        by_first : AllByRecursion Q (map its (filter_map h xs)) → (a : Option Y) → h x ≡ a → AllByRecursion Q (map its (cons_option a (filter_map h xs)))
        by_first rest None is = rest
        by_first rest (Some y) is = (subst Q (sym (same x y is)) all.0, rest)

    -- they stay in order
    pub some_ascend : (xs : List X) → IsStrictlySortedBy R (map key xs) → IsStrictlySortedBy R (map its (filter_map h xs))
    unfolding IsStrictlySortedBy
    some_ascend [] up = tt
    some_ascend (x ∷ xs) up = by_first (some_ascend xs up.1) (h x) refl
      where
        by_first : IsStrictlySortedBy R (map its (filter_map h xs)) → (a : Option Y) → h x ≡ a → IsStrictlySortedBy R (map its (cons_option a (filter_map h xs)))
        by_first rest None is = rest
        by_first rest (Some y) is = (subst (λ k. AllByRecursion (λ q. R k q ≡ Less) (map its (filter_map h xs))) (sym (same x y is)) (all_of_some (λ q. R (key x) q ≡ Less) xs up.0), rest)

-- what is made of each of them
pub made_of_each : {X Y : Type 0} (f : X → Y) (xs : List X) → filter_map (λ x. Some (f x)) xs ≡ map f xs
made_of_each f [] = refl
made_of_each f (x ∷ xs) = ap (λ ys. f x ∷ ys) (made_of_each f xs)
