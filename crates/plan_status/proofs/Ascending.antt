-- Rows in key order: which of two comes first, and that a key is at one index. A list with one element changed, or one more behind it.
use Rattle.std.proofs.Common.{◌≡◌, ◌≢◌, ◌⊎◌, inl, inr, refl, ap, subst, arith, ℕ, zero, suc, ◌<◌, List, [], ◌∷◌, ◌++◌, Contains, replicate, set, slice_get, Some, Ordering, Less}
use Rattle.std.proofs.lemmas.Bool.{cases_order}
use Rattle.std.proofs.lemmas.Map.Keys.{sorted_head, sorted_tail}
use Rattle.std.specs.Cmp.{IsTotalOrder}
use Rattle.std.specs.List.{AllByRecursion}
use Rattle.std.specs.List.Sorted.{IsStrictlySortedBy}
use Rattle.std.specs.Map.{keys_of}
use Rattle.plan_laws.proofs.Sorted.{not_itself}
use Rattle.plan_laws.specs.plan_drafts.proofs.RowPlaces.{later_key}
use Rattle.plan_basics.proofs.Members.{contains_cases, contains_head, contains_later, contains_none}

-- at the index that is set is the new element, elsewhere what was there
pub set_cases : {X : Type 0} (xs : List X) (i k : ℕ) (z u : X) → slice_get (set xs i z) k ≡ Some u → ((k ≡ i) × (u ≡ z)) ⊎ ((k ≢ i) × (slice_get xs k ≡ Some u))
set_cases [] i k z u e = cc
set_cases (x ∷ xs) zero zero z u e = let same : u ≡ z = cc in inl (refl, same)
set_cases (x ∷ xs) zero (suc k) z u e = inr (λ h. omega (arith, h), e)
set_cases (x ∷ xs) (suc i) zero z u e = inr (λ h. omega (arith, h), e)
set_cases (x ∷ xs) (suc i) (suc k) z u e = elim (set_cases xs i k z u e) [
  | inl at ↦ inl (ap suc at.0, at.1)
  | inr other ↦ inr (λ h. other.0 (let h' : k ≡ i = omega (arith, h) in h'), other.1)
]

-- each element of a list of equal ones
pub all_alike : {X : Type 0} (n i : ℕ) (x y : X) → slice_get (replicate n x) i ≡ Some y → y ≡ x
all_alike zero i x y e = cc
all_alike (suc n) zero x y e = cc
all_alike (suc n) (suc i) x y e = all_alike n i x y e

module _ {K X : Type 0} {R : K → K → Ordering} (o : IsTotalOrder R) where
  -- of two rows, the first has the smaller key
  pub keys_ascend : (rows : List (K × X)) → IsStrictlySortedBy R (keys_of rows) → (i j : ℕ) (a b : K) (v w : X)
      → slice_get rows i ≡ Some (a, v) → slice_get rows j ≡ Some (b, w) → i < j → R a b ≡ Less
  keys_ascend [] sorted i j a b v w e f less = cc
  keys_ascend (row ∷ rows) sorted i zero a b v w e f less = absurd (omega (arith, less))
  keys_ascend (row ∷ rows) sorted zero (suc j) a b v w e f less =
      let same : row ≡ (a, v) = cc in
      subst (λ (z : K × X). R z.0 b ≡ Less) same (later_key R row.0 rows j b w (sorted_head R row.0 (keys_of rows) sorted) f)
  keys_ascend (row ∷ rows) sorted (suc i) (suc j) a b v w e f less = keys_ascend rows (sorted_tail R row.0 (keys_of rows) sorted) i j a b v w e f (omega (arith, less))

  pub one_place : (rows : List (K × X)) → IsStrictlySortedBy R (keys_of rows) → (i j : ℕ) (k : K) (v w : X) → slice_get rows i ≡ Some (k, v) → slice_get rows j ≡ Some (k, w) → i ≡ j
  one_place rows sorted i j k v w e f = elim (cases_order i j) [
    | inl same ↦ same
    | inr (inl less) ↦ absurd (not_itself o k (keys_ascend rows sorted i j k k v w e f less))
    | inr (inr more) ↦ absurd (not_itself o k (keys_ascend rows sorted j i k k w v f e more))
  ]

-- ---- one more at the end

all_pushed : {K : Type 0} (P : K → Type 0) (xs : List K) (k : K) → AllByRecursion P xs → P k → AllByRecursion P (xs ++ k ∷ [])
all_pushed P [] k all last = (last, tt)
all_pushed P (x ∷ xs) k all last = (all.0, all_pushed P xs k all.1 last)

module _ {K : Type 0} (R : K → K → Ordering) where
  pub sorted_pushed : (xs : List K) (k : K) → IsStrictlySortedBy R xs → ((x : K) → Contains xs x → R x k ≡ Less) → IsStrictlySortedBy R (xs ++ k ∷ [])
  unfolding IsStrictlySortedBy
  sorted_pushed [] k up below = (tt, tt)
  sorted_pushed (x ∷ xs) k up below = (all_pushed (λ y. R x y ≡ Less) xs k up.0 (below x (contains_head x xs)), sorted_pushed xs k up.1 (λ y has. below y (contains_later x xs y has)))

module _ {K : Type 0} where
  pub pushed_last : (xs : List K) (k : K) → Contains (xs ++ k ∷ []) k
  pushed_last [] k = contains_head k []
  pushed_last (x ∷ xs) k = contains_later x (xs ++ k ∷ []) k (pushed_last xs k)

  pub pushed_earlier : (xs : List K) (k y : K) → Contains xs y → Contains (xs ++ k ∷ []) y
  pushed_earlier [] k y has = absurd (contains_none y has)
  pushed_earlier (x ∷ xs) k y has = elim (contains_cases x xs y has) [
    | inl e ↦ subst (Contains (x ∷ xs ++ k ∷ [])) e (contains_head x (xs ++ k ∷ []))
    | inr later ↦ contains_later x (xs ++ k ∷ []) y (pushed_earlier xs k y later)
  ]

  pub pushed_is : (xs : List K) (k y : K) → Contains (xs ++ k ∷ []) y → (k ≡ y) ⊎ Contains xs y
  pushed_is [] k y has = contains_cases k [] y has
  pushed_is (x ∷ xs) k y has = elim (contains_cases x (xs ++ k ∷ []) y has) [
    | inl e ↦ inr (subst (Contains (x ∷ xs)) e (contains_head x xs))
    | inr later ↦ elim (pushed_is xs k y later) [ inl last ↦ inl last | inr among ↦ inr (contains_later x xs y among) ]
  ]
