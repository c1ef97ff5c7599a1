-- Pairs in order with one more.
use Rattle.std.proofs.Common.{◌≡◌, refl, sym, ap, subst, ◌∙◌, arith, ℕ, zero, suc, ◌≤◌, Bool, true, false, ◌||◌, List, [], ◌∷◌, length, take, drop, Contains, get_or, ◌<◌, Result, Ok, Err}
use Rattle.std.proofs.lemmas.List.Sorted.{Contains-permutation, IsPermutation-insert, IsPermutation-sym}
use Rattle.std.specs.Cmp.{IsTotalOrder}
use Rattle.std.specs.FinMap.{IsAntisymmetric}
use Rattle.std.specs.FinSet as set
use Rattle.std.specs.List.{AllByRecursion, AllWithin, insert}
use Rattle.std.specs.List.Sorted.{IsBinarySearchResult, IsSearchInRange, IsStrictlySortedBy}
use Rattle.std.specs.Ordering.{eq_by_cmp, ordering_reverse}
use Rattle.std.specs.declared.cmp.Ordering.{Ordering}
use Rattle.std.specs.declared.cmp.Ordering.TheVariants.{Less, Greater}
use Rattle.plan_drafts.proofs.KeyPlaces.{in_listed, listed_in}
use Rattle.std.specs.Cmp.{both_ways as same_bool}
use Rattle.plan_drafts.proofs.MadeEntries.{key_of}
use Rattle.plan_drafts.proofs.Pairs.{sorted_dropped}
use Rattle.plan_model.specs.ready_list.proofs.Ordered.{comparisons_rise, sorted_around}

module _ {K : Type 0} {R : K → K → Ordering} (total : IsTotalOrder R) (exact : IsAntisymmetric R) where
  -- a part of a list in order
  all_taken : (P : K → Type 0) (i : ℕ) (xs : List K) → AllByRecursion P xs → AllByRecursion P (take i xs)
  all_taken P zero xs h = tt
  all_taken P (suc i) [] h = tt
  all_taken P (suc i) (x ∷ xs) h = (h.0, all_taken P i xs h.1)

  taken_in_order : (i : ℕ) (xs : List K) → IsStrictlySortedBy R xs → IsStrictlySortedBy R (take i xs)
  unfolding IsStrictlySortedBy
  taken_in_order zero xs h = tt
  taken_in_order (suc i) [] h = tt
  taken_in_order (suc i) (x ∷ xs) h = (all_taken (λ y. R x y ≡ Less) i xs h.0, taken_in_order i xs h.1)

  -- what is so of each element of a part
  front_by : (P : K → Type 0) (i : ℕ) (xs : List K) → i ≤ length xs → AllWithin P xs 0 i → AllByRecursion P (take i xs)
  front_by P zero xs le h = tt
  front_by P (suc i) [] le h = tt
  front_by P (suc i) (x ∷ xs) le h = (h 0 x (omega arith) (omega arith), front_by P i xs (omega (arith, le)) (λ k d low high. h (suc k) d (omega arith) (omega (arith, high))))

  back_by : (P : K → Type 0) (i : ℕ) (xs : List K) → AllWithin P xs i (length xs) → AllByRecursion P (drop i xs)
  back_by P i [] h = none i
    where
      none : (i : ℕ) → AllByRecursion P (drop i [])
      none zero = tt
      none (suc i) = tt
  back_by P zero (x ∷ xs) h = (h 0 x (omega arith) (omega arith), back_by P zero xs (λ k d low high. h (suc k) d (omega arith) (omega (arith, high))))
  back_by P (suc i) (x ∷ xs) h = back_by P i xs (λ k d low high. h (suc k) d (omega (arith, low)) (omega (arith, high)))

  -- put in where a search has missed it
  pub inserted_in_order : (xs : List K) (k : K) (i : ℕ) → IsStrictlySortedBy R xs → i ≤ length xs → IsBinarySearchResult (λ y. R y k) xs (Err i) → IsStrictlySortedBy R (insert xs i k)
  inserted_in_order xs k i sorted within parted =
      let point = parted (comparisons_rise (λ (y : K). y) total xs sorted k) in
      sorted_around (λ (y : K). y) total k (take i xs) (drop i xs) (taken_in_order i xs sorted) (sorted_dropped R i xs sorted)
      (front_by (λ y. R y k ≡ Less) i xs within point.0)
      (above (drop i xs) (back_by (λ y. R y k ≡ Greater) i xs point.1))
    where
      above : (ys : List K) → AllByRecursion (λ y. R y k ≡ Greater) ys → AllByRecursion (λ y. R k y ≡ Less) ys
      above [] h = tt
      above (y ∷ ys) h = (total.antisymm k y ∙ ap ordering_reverse h.0, above ys h.1)

  -- the set that it makes has one element more
  pub inserted_set : (xs : List K) (k : K) (i : ℕ) → set.from_list {R = R} (insert xs i k) ≡ set.insert (set.from_list xs) k
  inserted_set xs k i = set.same_set total exact (set.from_list (insert xs i k)) (set.from_list (k ∷ xs)) (λ q.
      same_bool (set.contains (set.from_list (insert xs i k)) q) (set.contains (set.from_list (k ∷ xs)) q)
      (λ h. in_listed total exact (k ∷ xs) q (Contains-permutation (insert xs i k) (k ∷ xs) q (IsPermutation-sym (k ∷ xs) (insert xs i k) (IsPermutation-insert xs i k)) (listed_in total exact (insert xs i k) q h)))
      (λ h. in_listed total exact (insert xs i k) q (Contains-permutation (k ∷ xs) (insert xs i k) q (IsPermutation-insert xs i k) (listed_in total exact (k ∷ xs) q h))))

  -- an element that is there already changes nothing
  pub inserted_known : (s : set.FinSet R) (k : K) → set.contains s k ≡ true → set.insert s k ≡ s
  inserted_known s k known = set.same_set total exact (set.insert s k) s (λ q. set.contains-insert total s k q ∙ either q (eq_by_cmp R q k) refl)
    where
      either : (q : K) (b : Bool) → eq_by_cmp R q k ≡ b → (b || set.contains s q) ≡ set.contains s q
      either q true is = sym (subst (λ z. set.contains s z ≡ true) (sym (key_of exact q k is)) known)
      either q false is = refl

-- where a search has found one, it is there
pub found_there : {K : Type 0} {R : K → K → Ordering} → IsAntisymmetric R → (xs : List K) (x : K) (r : Result ℕ ℕ) (i : ℕ) → r ≡ Ok i → IsSearchInRange r (length xs) → IsBinarySearchResult (λ y. R y x) xs r → Contains xs x
found_there {R = R} exact xs x r i is bound position =
    let within : i < length xs = subst (λ z. IsSearchInRange z (length xs)) is bound in
    let equal = subst (λ z. IsBinarySearchResult (λ y. R y x) xs z) is position in
    (i, within, exact (get_or xs i x) x (equal x))
