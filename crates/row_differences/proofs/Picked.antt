-- Elements of a list, taken at indices.
use Rattle.std.proofs.Common.{◌≡◌, inl, inr, refl, sym, subst, ap, ◌∙◌, ℕ, ◌<◌, List, [], ◌∷◌, map, slice_get, Contains, Option, Some, None}
use Rattle.std.specs.List.{AllByRecursion}
use Rattle.std.specs.List.Sorted.{IsStrictlySortedBy}
use Rattle.std.specs.Option.{option_map}
use Rattle.std.specs.Ordering.{nat_cmp}
use Rattle.std.specs.declared.cmp.Ordering.{Ordering}
use Rattle.std.specs.declared.cmp.Ordering.TheVariants.{Less}
use Rattle.std.proofs.lemmas.Cmp.{ranked}
use Rattle.std.proofs.lemmas.Option.{slice_get-map}
use Rattle.plan_basics.proofs.Members.{contains_head, contains_later, contains_cases, contains_none}
use Rattle.row_differences.specs.Changes.{AreAt}
use Rattle.row_differences.proofs.Merging.{lower}

module _ {X : Type 0} (xs : List X) where
  first_at : (i : ℕ) (places : List ℕ) (y : X) (ys : List X) → AreAt xs (i ∷ places) (y ∷ ys) → slice_get xs i ≡ Some y
  first_at i places y ys at = cc

  rest_at : (i : ℕ) (places : List ℕ) (y : X) (ys : List X) → AreAt xs (i ∷ places) (y ∷ ys) → AreAt xs places ys
  rest_at i places y ys at = cc

  -- what is taken is at one of the indices
  pub picked_from : (places : List ℕ) (ys : List X) (y : X) → AreAt xs places ys → Contains ys y → (i : ℕ) × Contains places i × (slice_get xs i ≡ Some y)
  picked_from [] [] y at has = absurd (contains_none y has)
  picked_from [] (z ∷ ys) y at has = absurd (cc)
  picked_from (i ∷ places) [] y at has = absurd (contains_none y has)
  picked_from (i ∷ places) (z ∷ ys) y at has = elim (contains_cases z ys y has) [
    | inl e ↦ (i, contains_head i places, first_at i places z ys at ∙ ap Some e)
    | inr later ↦ let r = picked_from places ys y (rest_at i places z ys at) later in (r.0, contains_later i places r.0 r.1, r.2)
  ]

  -- what is at one of the indices is taken
  pub picked_at : (places : List ℕ) (ys : List X) (i : ℕ) (y : X) → AreAt xs places ys → Contains places i → slice_get xs i ≡ Some y → Contains ys y
  picked_at [] ys i y at has e = absurd (contains_none i has)
  picked_at (j ∷ places) [] i y at has e = absurd (cc)
  picked_at (j ∷ places) (z ∷ ys) i y at has e = elim (contains_cases j places i has) [
    | inl same ↦
        let is : Some z ≡ Some y = sym (first_at j places z ys at) ∙ ap (slice_get xs) same ∙ e in
        let is_z : z ≡ y = cc in
        subst (Contains (z ∷ ys)) is_z (contains_head z ys)
    | inr later ↦ contains_later z ys y (picked_at places ys i y (rest_at j places z ys at) later e)
  ]

less_of_cmp : (m n : ℕ) → nat_cmp m n ≡ Less → m < n
less_of_cmp m n e = ranked m n Less (sym e)

-- of keys in order, those at ascending indices are in order
module _ {K : Type 0} (R : K → K → Ordering) (ks : List K) (up : IsStrictlySortedBy R ks) where
  later_above : (i : ℕ) (k : K) → slice_get ks i ≡ Some k → (places : List ℕ) (ys : List K) → AreAt ks places ys → AllByRecursion (λ j. nat_cmp i j ≡ Less) places → AllByRecursion (λ l. R k l ≡ Less) ys
  later_above i k e [] [] at above = tt
  later_above i k e [] (y ∷ ys) at above = absurd (cc)
  later_above i k e (j ∷ places) [] at above = absurd (cc)
  later_above i k e (j ∷ places) (y ∷ ys) at above = (lower R ks i j k y up (less_of_cmp i j above.0) e (first_at ks j places y ys at), later_above i k e places ys (rest_at ks j places y ys at) above.1)

  pub picks_ascend : (places : List ℕ) (ys : List K) → IsStrictlySortedBy nat_cmp places → AreAt ks places ys → IsStrictlySortedBy R ys
  unfolding IsStrictlySortedBy
  picks_ascend [] [] ascend at = tt
  picks_ascend [] (y ∷ ys) ascend at = absurd (cc)
  picks_ascend (i ∷ places) [] ascend at = absurd (cc)
  picks_ascend (i ∷ places) (y ∷ ys) ascend at = (later_above i y (first_at ks i places y ys at) places ys (rest_at ks i places y ys at) ascend.0, picks_ascend places ys ascend.1 (rest_at ks i places y ys at))

module _ {X Y : Type 0} (f : X → Y) where
  -- what is made of elements at indices is at these indices of what is made of all
  pub made_at : (xs : List X) (places : List ℕ) (ys : List X) → AreAt xs places ys → AreAt (map f xs) places (map f ys)
  made_at xs [] [] at = refl
  made_at xs [] (y ∷ ys) at = absurd (cc)
  made_at xs (i ∷ places) [] at = absurd (cc)
  made_at xs (i ∷ places) (y ∷ ys) at =
      let e : slice_get (map f xs) i ≡ Some (f y) = slice_get-map f xs i ∙ ap (option_map f) (first_at xs i places y ys at) in
      let rest = made_at xs places ys (rest_at xs i places y ys at) in
      λ t. e t ∷ rest t

  -- what is at an index of what is made of all is made of what is there
  pub made_from : (xs : List X) (i : ℕ) (y : Y) → slice_get (map f xs) i ≡ Some y → (x : X) × (slice_get xs i ≡ Some x) × (f x ≡ y)
  made_from xs i y e = at (slice_get xs i) refl (sym (slice_get-map f xs i) ∙ e)
    where
      at : (o : Option X) → slice_get xs i ≡ o → option_map f o ≡ Some y → (x : X) × (slice_get xs i ≡ Some x) × (f x ≡ y)
      at None is e = absurd (cc)
      at (Some x) is e = let same : f x ≡ y = cc in (x, is, same)

-- names in the order of the keys
module _ {K L : Type 0} (S : K → K → Ordering) (R : L → L → Ordering) (name : K → L) (in_order : (a b : K) → R (name a) (name b) ≡ S a b) where
  above_named : (k : K) (ks : List K) → AllByRecursion (λ l. S k l ≡ Less) ks → AllByRecursion (λ l. R (name k) l ≡ Less) (map name ks)
  above_named k [] h = tt
  above_named k (l ∷ ks) h = (in_order k l ∙ h.0, above_named k ks h.1)

  pub names_ascend : (ks : List K) → IsStrictlySortedBy S ks → IsStrictlySortedBy R (map name ks)
  unfolding IsStrictlySortedBy
  names_ascend [] up = tt
  names_ascend (k ∷ ks) up = (above_named k ks up.0, names_ascend ks up.1)
