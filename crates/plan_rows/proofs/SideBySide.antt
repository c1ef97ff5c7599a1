-- Rows beside what is known of each of them, seen as one list of views.
use Rattle.std.proofs.Common.{◌≡◌, refl, ap, arith, ℕ, zero, suc, List, [], ◌∷◌, map, drop, length, slice_get, Contains, Some, inl, inr}
use Rattle.std.specs.List.{zip}
use Rattle.std.specs.Map.{keys_of}
use Rattle.plan_records.specs.plan_drafts.proofs.Lists.{contains_cases, contains_none}

module _ {X : Type 0} where
  -- what is left from an index on begins with what is there
  pub left_from : (xs : List X) (i : ℕ) (x : X) → slice_get xs i ≡ Some x → drop i xs ≡ x ∷ drop (suc i) xs
  left_from [] i x e = cc
  left_from (y ∷ xs) zero x e = let same : y ≡ x = cc in ap (λ z. z ∷ xs) same
  left_from (y ∷ xs) (suc i) x e = left_from xs i x e

module _ {X Y : Type 0} where
  -- what is at an index in both lists is there side by side
  pub zipped_at : (xs : List X) (ys : List Y) (i : ℕ) (x : X) (y : Y) → slice_get xs i ≡ Some x → slice_get ys i ≡ Some y → slice_get (zip xs ys) i ≡ Some (x, y)
  zipped_at [] ys i x y e f = cc
  zipped_at (a ∷ xs) [] i x y e f = cc
  zipped_at (a ∷ xs) (b ∷ ys) zero x y e f = let p : a ≡ x = cc in let q : b ≡ y = cc in λ j. Some (p j, q j)
  zipped_at (a ∷ xs) (b ∷ ys) (suc i) x y e f = zipped_at xs ys i x y e f

  -- and comes from there
  pub from_zipped : (xs : List X) (ys : List Y) (i : ℕ) (z : X × Y) → slice_get (zip xs ys) i ≡ Some z → (slice_get xs i ≡ Some z.0) × (slice_get ys i ≡ Some z.1)
  from_zipped [] ys i z e = cc
  from_zipped (a ∷ xs) [] i z e = cc
  from_zipped (a ∷ xs) (b ∷ ys) zero z e = let p : ◌≡◌ {A = X × Y} (a, b) z = cc in (λ j. Some (p j).0, λ j. Some (p j).1)
  from_zipped (a ∷ xs) (b ∷ ys) (suc i) z e = from_zipped xs ys i z e

  pub length_zipped : (xs : List X) (ys : List Y) → length ys ≡ length xs → length (zip xs ys) ≡ length xs
  length_zipped [] ys e = refl
  length_zipped (a ∷ xs) [] e = absurd (omega (arith, e))
  length_zipped (a ∷ xs) (b ∷ ys) e = ap suc (length_zipped xs ys (omega (arith, e)))

module _ {K V X W : Type 0} (view : (K × V) × X → W) where
  abbrev pub viewed : List (K × V) → List X → List W
  viewed rows xs = map view (zip rows xs)

  -- the view at an index is that of what is there on both sides
  pub viewed_at : (rows : List (K × V)) (xs : List X) (i : ℕ) (row : K × V) (x : X) → slice_get rows i ≡ Some row → slice_get xs i ≡ Some x
      → slice_get (viewed rows xs) i ≡ Some (view (row, x))
  viewed_at [] xs i row x e f = cc
  viewed_at (r ∷ rows) [] i row x e f = cc
  viewed_at (r ∷ rows) (y ∷ xs) zero row x e f = let a : r ≡ row = cc in let b : y ≡ x = cc in λ j. Some (view (a j, b j))
  viewed_at (r ∷ rows) (y ∷ xs) (suc i) row x e f = viewed_at rows xs i row x e f

  -- each view is that of some row
  pub from_viewed : (rows : List (K × V)) (xs : List X) (w : W) → Contains (viewed rows xs) w
      → (i : ℕ) × (row : K × V) × (x : X) × (slice_get rows i ≡ Some row) × (slice_get xs i ≡ Some x) × (view (row, x) ≡ w)
  from_viewed [] xs w has = absurd (contains_none w has)
  from_viewed (r ∷ rows) [] w has = absurd (contains_none w has)
  from_viewed (r ∷ rows) (y ∷ xs) w has = elim (contains_cases (view (r, y)) (viewed rows xs) w has) [
    | inl e ↦ (0, r, y, refl, refl, e)
    | inr later ↦ let h = from_viewed rows xs w later in (suc h.0, h.1, h.2, h.3, h.4, h.5)
  ]

  -- as many as there are rows
  pub length_viewed : (rows : List (K × V)) (xs : List X) → length xs ≡ length rows → length (viewed rows xs) ≡ length rows
  length_viewed [] xs e = refl
  length_viewed (r ∷ rows) [] e = absurd (omega (arith, e))
  length_viewed (r ∷ rows) (y ∷ xs) e = ap suc (length_viewed rows xs (omega (arith, e)))

  -- where a view bears its row's key, the views' keys are the rows'
  pub keys_viewed : (key : W → K) → ((p : (K × V) × X) → key (view p) ≡ p.0.0) → (rows : List (K × V)) (xs : List X) → length xs ≡ length rows
      → map key (viewed rows xs) ≡ keys_of rows
  keys_viewed key same [] xs e = refl
  keys_viewed key same (r ∷ rows) [] e = absurd (omega (arith, e))
  keys_viewed key same (r ∷ rows) (y ∷ xs) e = let h = keys_viewed key same rows xs (omega (arith, e)) in λ j. same (r, y) j ∷ h j
