-- Rows in key order, and the map that they are.
use Rattle.std.proofs.Common.{◌≡◌, inl, inr, refl, sym, ap, ap₂, subst, ◌∙◌, true≢false, arith, ℕ, zero, suc, ◌+◌, ◌<◌, Bool, true, false, cond, List, [], ◌∷◌, map, length, get_or, slice_get, Option, Some, None, option_map, Result, Ok, Err, IfSome, IsNone}
use Rattle.std.specs.Result.{result_ok}
use Rattle.std.specs.Option.{is_some}
use Rattle.std.specs.List.{AllByRecursion}
use Rattle.std.specs.List.Sorted.{IsStrictlySortedBy, IsSortedBy, IsBinarySearchResult, IsPartitionPoint, IsSearchInRange}
use Rattle.std.specs.Cmp.{IsTotalOrder, eq_by_cmp_equiv}
use Rattle.std.specs.Map.{keys_of}
use Rattle.std.specs.Ordering.{eq_by_cmp, is_eq, is_lt, ordering_reverse}
use Rattle.std.specs.declared.cmp.Ordering.{Ordering}
use Rattle.std.specs.declared.cmp.Ordering.TheVariants.{Less, Equal, Greater}
use Rattle.std.specs.FinMap.{IsAntisymmetric, find, from_entries, get, get-from_entries, len, len-empty, len-insert, same_map}
use Rattle.std.proofs.lemmas.List.{get_or-map, length-map}
use Rattle.std.proofs.lemmas.List.Sorted.{searchable_from_sorted}
use Rattle.std.proofs.lemmas.Map.Keys.{Less-from_sorted, sorted_head, sorted_tail}
use Rattle.std.proofs.lemmas.Option.{slice_get_cases, slice_get_within, get_or_from_slice_get}
use Rattle.std.proofs.lemmas.Bool.{cases_lt}
use Rattle.plan_basics.proofs.Members.{less_not_tied}
use Rattle.plan_model.specs.Revise.{get-revise, revise}
use Rattle.plan_drafts.proofs.MadeEntries.{each_made, find-made, key_of}

-- how two keys that are next to one another are ordered
module _ {K X : Type 0} (R : K → K → Ordering) (key : X → K) (xs : List X) where
  pub neighbours : (k : ℕ) (d : X) → k + 1 < length xs → R (get_or (map key xs) k (key d)) (get_or (map key xs) (k + 1) (key d)) ≡ R (key (get_or xs k d)) (key (get_or xs (k + 1) d))
  neighbours k d high = ap₂ R (get_or-map key xs k d (key d) (omega (arith, high))) (get_or-map key xs (k + 1) d (key d) high)

  -- in keys that ascend, each is below the next
  pub next_less : IsStrictlySortedBy R (map key xs) → (k : ℕ) (d : X) → k + 1 < length xs → R (key (get_or xs k d)) (key (get_or xs (k + 1) d)) ≡ Less
  next_less up k d high = sym (neighbours k d high) ∙ Less-from_sorted R (map key xs) k (k + 1) (key d) up (omega arith) (omega (arith, high, length-map xs key))

module _ {K X : Type 0} (R : K → K → Ordering) where
  -- a key below all others isn't found
  none_after : (k : K) (rows : List (K × X)) → AllByRecursion (λ y. R k y ≡ Less) (keys_of rows) → find R k rows ≡ None
  none_after k [] h = refl
  none_after k (row ∷ rows) h = ap (λ b. cond b (Some row.1) (find R k rows)) (less_not_tied (R k row.0) h.0) ∙ none_after k rows h.1

  pub later_key : (k : K) (rows : List (K × X)) (i : ℕ) (q : K) (v : X) → AllByRecursion (λ y. R k y ≡ Less) (keys_of rows) → slice_get rows i ≡ Some (q, v) → R k q ≡ Less
  later_key k [] i q v h e = cc
  later_key k (row ∷ rows) zero q v h e = let same : row ≡ (q, v) = cc in subst (λ z. R k z.0 ≡ Less) same h.0
  later_key k (row ∷ rows) (suc i) q v h e = later_key k rows i q v h.1 e

  -- of two rows, that with the smaller key is first
  pub places_ascend : (o : IsTotalOrder R) (rows : List (K × X)) → IsStrictlySortedBy R (keys_of rows) → (i j : ℕ) (a b : K) (v w : X) → slice_get rows i ≡ Some (a, v) → slice_get rows j ≡ Some (b, w) → R a b ≡ Less → i < j
  places_ascend o [] sorted i j a b v w e f less = cc
  places_ascend o (row ∷ rows) sorted zero zero a b v w e f less =
      let same : ◌≡◌ {A = K × X} (a, v) (b, w) = cc in
      let r : R a a ≡ Less = subst (λ z. R a z ≡ Less) (sym (ap (λ p. p.0) same)) less in
      let s : eq_by_cmp R a a ≡ true = (eq_by_cmp_equiv o).refl a in
      absurd (true≢false (sym s ∙ less_not_tied (R a a) r))
  places_ascend o (row ∷ rows) sorted zero (suc j) a b v w e f less = omega arith
  places_ascend o (row ∷ rows) sorted (suc i) zero a b v w e f less =
      let same : row ≡ (b, w) = cc in
      let back : R b a ≡ Less = subst (λ z. R z.0 a ≡ Less) same (later_key row.0 rows i a v (sorted_head R row.0 (keys_of rows) sorted) e) in
      let r : R a a ≡ Less = o.trans a b a less back in
      let s : eq_by_cmp R a a ≡ true = (eq_by_cmp_equiv o).refl a in
      absurd (true≢false (sym s ∙ less_not_tied (R a a) r))
  places_ascend o (row ∷ rows) sorted (suc i) (suc j) a b v w e f less =
      let h = places_ascend o rows (sorted_tail R row.0 (keys_of rows) sorted) i j a b v w e f less in omega (arith, h)

  -- a row's key is nowhere else
  pub find_at : (o : IsTotalOrder R) (rows : List (K × X)) → IsStrictlySortedBy R (keys_of rows) → (i : ℕ) (k : K) (v : X) → slice_get rows i ≡ Some (k, v) → find R k rows ≡ Some v
  find_at o [] sorted i k v e = cc
  find_at o (row ∷ rows) sorted zero k v e =
      let same : row ≡ (k, v) = cc in
      let key : k ≡ row.0 = sym (ap (λ z. z.0) same) in
      ap (λ z. find R z (row ∷ rows)) key ∙ ap (λ b. cond b (Some row.1) (find R row.0 rows)) ((eq_by_cmp_equiv o).refl row.0) ∙ ap (λ z. Some z.1) same
  find_at o (row ∷ rows) sorted (suc i) k v e =
      let less = later_key row.0 rows i k v (sorted_head R row.0 (keys_of rows) sorted) e in
      let apart : eq_by_cmp R k row.0 ≡ false = (eq_by_cmp_equiv o).symm k row.0 ∙ less_not_tied (R row.0 k) less in
      ap (λ b. cond b (Some row.1) (find R k rows)) apart ∙ find_at o rows (sorted_tail R row.0 (keys_of rows) sorted) i k v e

module _ {K X : Type 0} (R : K → K → Ordering) (o : IsTotalOrder R) (same : IsAntisymmetric R) where
  pub get_at : (rows : List (K × X)) → IsStrictlySortedBy R (keys_of rows) → (i : ℕ) (k : K) (v : X) → slice_get rows i ≡ Some (k, v) → get {R = R} (from_entries rows) k ≡ Some v
  get_at rows sorted i k v e = get-from_entries o rows k ∙ find_at R o rows sorted i k v e

  found_place : (k : K) (v : X) (row : K × X) (rows : List (K × X)) (b : Bool) → eq_by_cmp R k row.0 ≡ b → cond b (Some row.1) (find R k rows) ≡ Some v → (find R k rows ≡ Some v → (i : ℕ) × (slice_get rows i ≡ Some (k, v))) → (i : ℕ) × (slice_get (row ∷ rows) i ≡ Some (k, v))
  found_place k v row rows true is found later = let e : row.1 ≡ v = cc in (0, λ j. Some (sym (key_of same k row.0 is) j, e j))
  found_place k v row rows false is found later = let at = later found in (suc at.0, at.1)

  place_found : (rows : List (K × X)) (k : K) (v : X) → find R k rows ≡ Some v → (i : ℕ) × (slice_get rows i ≡ Some (k, v))
  place_found [] k v e = cc
  place_found (row ∷ rows) k v e = found_place k v row rows (eq_by_cmp R k row.0) refl e (place_found rows k v)

  -- what is in the map is at some index
  pub place_of_found : (rows : List (K × X)) (k : K) (v : X) → get {R = R} (from_entries rows) k ≡ Some v → (i : ℕ) × (slice_get rows i ≡ Some (k, v))
  place_of_found rows k v e = place_found rows k v (sym (get-from_entries o rows k) ∙ e)

  -- the rows with each value made anew are the map with each value made anew
  pub from_made : (f : K → X → X) (rows : List (K × X)) → from_entries {R = R} (each_made f rows) ≡ revise f (from_entries rows)
  from_made f rows = same_map o same (from_entries (each_made f rows)) (revise f (from_entries rows)) (λ q.
      get-from_entries o (each_made f rows) q ∙ find-made R o same f q rows ∙ ap (option_map (f q)) (sym (get-from_entries o rows q)) ∙ sym (get-revise same f (from_entries rows) q))

  pub keys-made : (f : K → X → X) (rows : List (K × X)) → keys_of (each_made f rows) ≡ keys_of rows
  keys-made f [] = refl
  keys-made f (row ∷ rows) = ap (λ ks. row.0 ∷ ks) (keys-made f rows)

  -- as many as there are rows
  pub len-from_entries : (rows : List (K × X)) → IsStrictlySortedBy R (keys_of rows) → len (from_entries {R = R} rows) ≡ length rows
  len-from_entries [] sorted = len-empty R X
  len-from_entries (row ∷ rows) sorted =
      let new : get {R = R} (from_entries rows) row.0 ≡ None = get-from_entries o rows row.0 ∙ none_after R row.0 rows (sorted_head R row.0 (keys_of rows) sorted) in
      let ih = len-from_entries rows (sorted_tail R row.0 (keys_of rows) sorted) in
      len-insert o (from_entries rows) row.0 row.1 ∙ ap (λ x. cond (is_some x) (len (from_entries {R = R} rows)) (len (from_entries {R = R} rows) + 1)) new ∙ one_more ih
    where
      one_more : {a b : ℕ} → a ≡ b → a + 1 ≡ suc b
      one_more e = omega (arith, e)

-- ---- what a binary search finds

not_after : (r : Ordering) → r ≡ Less → is_lt (ordering_reverse r) ≡ false
not_after Less h = refl
not_after Equal h = cc
not_after Greater h = cc

module _ {K X : Type 0} (R : K → K → Ordering) (o : IsTotalOrder R) (same : IsAntisymmetric R) (rows : List (K × X)) (sorted : IsStrictlySortedBy R (keys_of rows)) (k : K) where
  in_order : IsSortedBy (λ a b. is_lt (R a.0 b.0)) rows
  in_order i d low high = ap is_lt (o.antisymm (get_or rows (i + 1) d).0 (get_or rows i d).0) ∙ not_after _ (next_less R (λ (row : K × X). row.0) rows sorted i d high)

  at_place : (i : ℕ) → i < length rows → ((d : K × X) → R (get_or rows i d).0 k ≡ Equal) → (v : X) × (slice_get rows i ≡ Some (k, v))
  at_place i lt h = elim (slice_get_cases rows i).1 [
    | inl here ↦ let e : here.0.0 ≡ k = same here.0.0 k (subst (λ z. R z.0 k ≡ Equal) here.3 (h here.0)) in (here.0.1, here.2 ∙ ap (λ z. Some (z, here.0.1)) e)
    | inr past ↦ absurd (let p = past.0 in omega (arith, p, lt))
  ]

  apart : (v : X) (i : ℕ) → IsPartitionPoint (λ y. R y.0 k ≡ Less) (λ y. R y.0 k ≡ Greater) rows i → find R k rows ≡ Some v → ⊥
  apart v i point e =
      let at = place_found R o same rows k v e in
      let lt : at.0 < length rows = slice_get_within rows at.0 (k, v) at.1 in
      let is : get_or rows at.0 (k, v) ≡ (k, v) = get_or_from_slice_get rows at.0 (k, v) (k, v) at.1 in
      let ties : is_eq (R k k) ≡ true = (eq_by_cmp_equiv o).refl k in
      elim (cases_lt at.0 i) [
        | inl before ↦ let r : R k k ≡ Less = subst (λ (z : K × X). R z.0 k ≡ Less) is (point.0 at.0 (k, v) (omega arith) before) in cc
        | inr after ↦ let r : R k k ≡ Greater = subst (λ (z : K × X). R z.0 k ≡ Greater) is (point.1 at.0 (k, v) after lt) in cc
      ]

  none_found : (i : ℕ) → IsPartitionPoint (λ y. R y.0 k ≡ Less) (λ y. R y.0 k ≡ Greater) rows i → (x : Option X) → find R k rows ≡ x → x ≡ None
  none_found i point None e = refl
  none_found i point (Some v) e = absurd (apart v i point e)

  found_at : (r : Result ℕ ℕ) → IsSearchInRange r (length rows) → IsBinarySearchResult (λ row. R row.0 k) rows r → IfSome (result_ok r) (λ i. (v : X) × (slice_get rows i ≡ Some (k, v)))
  found_at (Ok i) within h = at_place i within h
  found_at (Err i) within h = tt

  missed : (r : Result ℕ ℕ) → IsBinarySearchResult (λ row. R row.0 k) rows r → IsNone (result_ok r) → get {R = R} (from_entries rows) k ≡ None
  missed (Ok i) h none = cc
  missed (Err i) h none = get-from_entries o rows k ∙ none_found i (h (searchable_from_sorted o (λ (row : K × X). row.0) rows k in_order)) (find R k rows) refl

  module _ (r : Result ℕ ℕ) (within : IsSearchInRange r (length rows)) (h : IsBinarySearchResult (λ row. R row.0 k) rows r) (place : Option ℕ) (is : place ≡ result_ok r) where
    pub search_finds : IfSome place (λ i. (v : X) × (slice_get rows i ≡ Some (k, v)))
    search_finds = rw is (found_at r within h)

    pub search_misses : IsNone place → get {R = R} (from_entries rows) k ≡ None
    search_misses none = missed r h (subst IsNone is none)

-- an index below the length has an element
pub row_at : {X : Type 0} (xs : List X) (i : ℕ) → i < length xs → (x : X) × (slice_get xs i ≡ Some x)
row_at xs i lt = elim (slice_get_cases xs i).1 [
  | inl here ↦ (here.0, here.2)
  | inr past ↦ absurd (let p = past.0 in omega (arith, p, lt))
]
