-- Lists that are sorted, searched and tested for order, where only equal keys tie.
use Rattle.std.proofs.Common.{◌≡◌, ◌≢◌, ◌↔◌, refl, sym, subst, ap, ◌∙◌, arith, ℕ, suc, ◌+◌, ◌<◌, Bool, true, false, true≢false, IsTrue, List, [], ◌∷◌, map, length, get_or, slice_get, Contains, Some, Result, Ok, Err, is_ok, inl, inr}
use Rattle.std.proofs.lemmas.Bool.{cases_lt}
use Rattle.std.specs.List.{IsDistinct, IsAllAdjacentAnswer}
use Rattle.std.specs.List.Sorted.{IsPermutation, IsSortedBy, IsSortedByKey, IsStrictlySortedBy, IsBinarySearchResult, IsSearchInRange}
use Rattle.std.specs.declared.cmp.Ordering.{Ordering}
use Rattle.std.specs.declared.cmp.Ordering.TheVariants.{Less, Equal, Greater}
use Rattle.std.specs.Ordering.{eq_by_cmp, is_lt, ordering_reverse}
use Rattle.std.specs.Cmp.{IsTotalOrder, tied_itself, eq_by_cmp_equiv}
use Rattle.std.specs.FinMap.{IsAntisymmetric}
use Rattle.std.proofs.lemmas.List.{length-map}
use Rattle.std.proofs.lemmas.List.Elements.{All-contains, recursion_from_All, All-from_recursion}
use Rattle.std.proofs.lemmas.List.Sorted.{ranks_by, sorted_far, searchable_from_sorted, IsPermutation-map}
use Rattle.std.proofs.lemmas.Map.Keys.{IsDistinct-IsPermutation, sorted_from_all_adjacent}
use Rattle.plan_drafts.proofs.KeyPlaces.{sorted_from_strict}
use Rattle.plan_drafts.proofs.Lists.{all_by_members, in_map, from_map, Differ, differ_map, differ_unmap}
use Rattle.std.proofs.lemmas.Option.{get_or_from_slice_get}
use Rattle.plan_drafts.proofs.RowPlaces.{neighbours, next_less, row_at}
use Rattle.plan_drafts.proofs.Tables.{other_key, itself}

pub map_same : {X : Type 0} (xs : List X) → map (λ x. x) xs ≡ xs
map_same [] = refl
map_same (x ∷ xs) = ap (λ ys. x ∷ ys) (map_same xs)

module _ {K : Type 0} {R : K → K → Ordering} (total : IsTotalOrder R) where
  is_less : (o : Ordering) → true ≡ is_lt o → o ≡ Less
  is_less Less e = refl
  is_less Equal e = absurd (true≢false e)
  is_less Greater e = absurd (true≢false e)

  module _ {X : Type 0} (key : X → K) where
    ascends_when : (xs : List X) → (k : ℕ) × (k + 1 < length xs) × ((d : X) → false ≡ is_lt (R (key (get_or xs k d)) (key (get_or xs (k + 1) d)))) → IsStrictlySortedBy R (map key xs) → ⊥
    ascends_when [] (k, lt, f) up = omega arith
    ascends_when (x ∷ xs) (k, lt, f) up = true≢false (ap is_lt (sym (next_less R key (x ∷ xs) up k x lt)) ∙ sym (f x))

    ascends_then : (xs : List X) → ((k : ℕ) (d : X) → k + 1 < length xs → true ≡ is_lt (R (key (get_or xs k d)) (key (get_or xs (k + 1) d)))) → IsStrictlySortedBy R (map key xs)
    unfolding IsStrictlySortedBy
    ascends_then [] h = tt
    ascends_then (x ∷ xs) h = sorted_from_all_adjacent total (map key (x ∷ xs)) (key x) (λ k lt.
        let high : k + 1 < length (x ∷ xs) = omega (arith, lt, length-map (x ∷ xs) key) in
        neighbours R key (x ∷ xs) k x high ∙ is_less _ (h k x high))

    -- a test of neighbours shows whether the keys ascend
    pub ascends_told : (xs : List X) (r : Bool) → IsAllAdjacentAnswer (λ x y b. b ≡ is_lt (R (key x) (key y))) xs r → IsTrue r ↔ IsStrictlySortedBy R (map key xs)
    ascends_told xs true h = (λ _. ascends_then xs h, λ _. refl)
    ascends_told xs false h = (λ e. absurd (true≢false (sym e)), λ up. absurd (ascends_when xs h up))

  module _ (exact : IsAntisymmetric R) where
    -- a search by a key shows whether it is the key of an element, where the list is sorted by it
    pub search_told_by : {X : Type 0} (key : X → K) (xs : List X) (k : K) (r : Result ℕ ℕ) → IsSearchInRange r (length xs) → IsBinarySearchResult (λ x. R (key x) k) xs r → IsSortedBy (λ a b. is_lt (R (key a) (key b))) xs → IsTrue (is_ok r) ↔ Contains (map key xs) k
    search_told_by {X} key xs k (Ok i) within h sorted = (λ _. found (row_at xs i within), λ _. refl)
      where
        found : (x : X) × (slice_get xs i ≡ Some x) → Contains (map key xs) k
        found (x, is) = subst (Contains (map key xs)) (ap key (sym (get_or_from_slice_get xs i x x is)) ∙ exact (key (get_or xs i x)) k (h x)) (in_map key xs x (i, within, get_or_from_slice_get xs i x x is))
    search_told_by {X} key xs k (Err i) within h sorted = (λ e. absurd (true≢false (sym e)), λ has. absurd (missing (from_map key xs k has)))
      where
        missing : (x : X) × Contains xs x × (key x ≡ k) → ⊥
        missing (x, (j, lt, is), same) =
            let parts = h (searchable_from_sorted total key xs k sorted) in
            let tied : R (key (get_or xs j x)) k ≡ Equal = ap (λ y. R (key y) k) is ∙ ap (λ q. R q k) same ∙ tied_itself total k in
            elim (cases_lt j i) [
              | inl before ↦ let less : R (key (get_or xs j x)) k ≡ Less = parts.0 j x (omega arith) before in cc
              | inr after ↦ let greater : R (key (get_or xs j x)) k ≡ Greater = parts.1 j x after lt in cc
            ]

    -- a search in a list that ascends shows whether it has the key
    pub search_told : (xs : List K) (x : K) (r : Result ℕ ℕ) → IsSearchInRange r (length xs) → IsBinarySearchResult (λ y. R y x) xs r → IsStrictlySortedBy R xs → IsTrue (is_ok r) ↔ Contains xs x
    search_told xs x r within h up = subst (λ ys. IsTrue (is_ok r) ↔ Contains ys x) (map_same xs) (search_told_by (λ y. y) xs x r within h (sorted_from_strict total xs up))

    less_from : (a b : K) → is_lt (R b a) ≡ false → a ≢ b → R a b ≡ Less
    less_from a b not_less apart = elim (R a b) as (λ o. R a b ≡ o → R a b ≡ Less) [
      | Less ↦ λ e. e
      | Equal ↦ λ e. absurd (apart (exact a b e))
      | Greater ↦ λ e. absurd (true≢false (sym (ap is_lt (total.antisymm b a ∙ ap ordering_reverse e)) ∙ not_less))
    ] refl

    distinct_from_differ : (ks : List K) → Differ (λ a b. a ≢ b) ks → IsDistinct (eq_by_cmp R) ks
    unfolding IsDistinct
    distinct_from_differ [] d = tt
    distinct_from_differ (k ∷ ks) d = (recursion_from_All (λ y. eq_by_cmp R k y ≡ false) ks (all_by_members (λ y. eq_by_cmp R k y ≡ false) ks (λ y has. other_key total exact k y (All-contains (λ b. k ≢ b) ks y d.0 has))), distinct_from_differ ks d.1)

    differ_from_distinct : (ks : List K) → IsDistinct (eq_by_cmp R) ks → Differ (λ a b. a ≢ b) ks
    unfolding IsDistinct
    differ_from_distinct [] d = tt
    differ_from_distinct (k ∷ ks) d =
        (all_by_members (λ b. k ≢ b) ks (λ b has same. true≢false (sym (itself total exact k) ∙ ap (eq_by_cmp R k) same ∙ All-contains (λ y. eq_by_cmp R k y ≡ false) ks b (All-from_recursion (λ y. eq_by_cmp R k y ≡ false) ks d.0) has)), differ_from_distinct ks d.1)

    module _ {X : Type 0} (key : X → K) where
      -- what differs by a key does so in any order
      pub differ_permuted : (xs ys : List X) → IsPermutation xs ys → Differ (λ a b. key a ≢ key b) xs → Differ (λ a b. key a ≢ key b) ys
      differ_permuted xs ys same d =
          differ_unmap key (λ a b. a ≢ b) ys (differ_from_distinct (map key ys)
          (IsDistinct-IsPermutation (eq_by_cmp R) ((eq_by_cmp_equiv total).symm) (map key xs) (map key ys) (IsPermutation-map key xs ys same)
          (distinct_from_differ (map key xs) (differ_map key (λ a b. a ≢ b) xs d))))

      -- what is sorted by a key and differs by it ascends
      pub strict_from_sorted : (xs : List X) → IsSortedByKey key R xs → Differ (λ a b. key a ≢ key b) xs → IsStrictlySortedBy R (map key xs)
      unfolding IsStrictlySortedBy
      strict_from_sorted [] up d = tt
      strict_from_sorted (x ∷ xs) up d = (
        recursion_from_All (λ y. R (key x) y ≡ Less) (map key xs) (all_by_members (λ y. R (key x) y ≡ Less) (map key xs) (λ y has. later y (from_map key xs y has))),
        strict_from_sorted xs (λ k e low high. (let same : suc k + 1 ≡ suc (k + 1) = omega arith in subst (λ n. is_lt (R (key (get_or (x ∷ xs) n e)) (key (get_or xs k e))) ≡ false) same (up (suc k) e (omega arith) (omega arith)))) d.1,
      )
        where
          later : (y : K) → (z : X) × Contains xs z × (key z ≡ y) → R (key x) y ≡ Less
          later y (z, (i, lt, is), e) =
              let far : is_lt (R (key (get_or xs i z)) (key x)) ≡ false = sorted_far (λ a b. is_lt (R (key a) (key b))) (ranks_by total key) (x ∷ xs) up 0 (suc i) z (omega arith) (omega arith) in
              let far' : is_lt (R (key z) (key x)) ≡ false = subst (λ w. is_lt (R (key w) (key x)) ≡ false) is far in
              subst (λ w. R (key x) w ≡ Less) e (less_from (key x) (key z) far' (All-contains (λ b. key x ≢ key b) xs z d.0 (i, lt, is)))
