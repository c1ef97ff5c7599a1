-- Rows in key order of which one is made anew.
use Rattle.std.proofs.Common.{◌≡◌, refl, sym, ap, ap₂, subst, ◌∙◌, ℕ, zero, suc, ◌<◌, Bool, true, false, cond, List, [], ◌∷◌, Option, Some, None, option_map, Ordering, Less, length, set, slice_get}
use Rattle.std.specs.Cmp.{IsTotalOrder, eq_by_cmp_equiv}
use Rattle.std.specs.FinMap.{FinMap, IsAntisymmetric, find, from_entries, get, get-insert, insert, same_map}
use Rattle.std.specs.List.{AllByRecursion}
use Rattle.std.specs.List.Sorted.{IsStrictlySortedBy}
use Rattle.std.specs.Map.{keys_of}
use Rattle.std.specs.Ordering.{eq_by_cmp}
use Rattle.std.proofs.lemmas.Map.Keys.{sorted_head, sorted_tail}
use Rattle.std.proofs.lemmas.Option.{slice_get_within}
use Rattle.plan_model.specs.Revise.{get-revise, revise}
use Rattle.plan_drafts.proofs.MadeEntries.{each_made, key_of, not_equal}
use Rattle.plan_drafts.proofs.RowPlaces.{from_made, keys-made, later_key}

-- an index at which a row of the key is
pub place_within : {K X : Type 0} (rows : List (K × X)) (place : ℕ) (key : K) → (x : X) × (slice_get rows place ≡ Some (key, x)) → place < length rows
place_within rows place key at = slice_get_within rows place (key, at.0) at.1

module _ {K X : Type 0} (R : K → K → Ordering) (o : IsTotalOrder R) (same : IsAntisymmetric R) (k : K) where
  -- the value, made anew at the key k
  abbrev pub made_at : (X → X) → K → X → X
  made_at f q x = cond (eq_by_cmp R q k) (f x) x

  -- a row of another key
  other_row : (f : X → X) (row : K × X) → eq_by_cmp R row.0 k ≡ false → (row.0, made_at f row.0 row.1) ≡ row
  other_row f row apart = ap (λ b. (row.0, cond b (f row.1) row.1)) apart

  its_row : (f : X → X) (v : X) → ◌≡◌ {A = K × X} (k, made_at f k v) (k, f v)
  its_row f v = ap (λ b. (k, cond b (f v) v)) ((eq_by_cmp_equiv o).refl k)

  later_rows : (f : X → X) (rows : List (K × X)) → AllByRecursion (λ q. R k q ≡ Less) (keys_of rows) → each_made (made_at f) rows ≡ rows
  later_rows f [] below = refl
  later_rows f (row ∷ rows) below =
      ap₂ (λ (r : K × X) (rs : List (K × X)). r ∷ rs) (other_row f row ((eq_by_cmp_equiv o).symm row.0 k ∙ not_equal (R k row.0) below.0)) (later_rows f rows below.1)

  -- to set the row of the key is to make the value at the key anew
  pub set_made : (f : X → X) (rows : List (K × X)) → IsStrictlySortedBy R (keys_of rows) → (i : ℕ) (v : X) → slice_get rows i ≡ Some (k, v) → set rows i (k, f v) ≡ each_made (made_at f) rows
  set_made f [] sorted i v at = cc
  set_made f (row ∷ rows) sorted zero v at =
      let is : row ≡ (k, v) = cc in
      let below : AllByRecursion (λ q. R k q ≡ Less) (keys_of rows) = subst (λ (z : K × X). AllByRecursion (λ q. R z.0 q ≡ Less) (keys_of rows)) is (sorted_head R row.0 (keys_of rows) sorted) in
      ap₂ (λ (r : K × X) (rs : List (K × X)). r ∷ rs) (sym (ap (λ (z : K × X). (z.0, made_at f z.0 z.1)) is ∙ its_row f v)) (sym (later_rows f rows below))
  set_made f (row ∷ rows) sorted (suc i) v at =
      let less = later_key R row.0 rows i k v (sorted_head R row.0 (keys_of rows) sorted) at in
      ap₂ (λ (r : K × X) (rs : List (K × X)). r ∷ rs) (sym (other_row f row (not_equal (R row.0 k) less))) (set_made f rows (sorted_tail R row.0 (keys_of rows) sorted) i v at)

  not_found : (row : K × X) (rows : List (K × X)) (b : Bool) → eq_by_cmp R k row.0 ≡ b → cond b (Some row.1) (find R k rows) ≡ None → (eq_by_cmp R k row.0 ≡ false) × (find R k rows ≡ None)
  not_found row rows true is none = cc
  not_found row rows false is none = (is, none)

  -- where no row has the key, nothing is made anew
  pub absent_made : (f : X → X) (rows : List (K × X)) → find R k rows ≡ None → each_made (made_at f) rows ≡ rows
  absent_made f [] none = refl
  absent_made f (row ∷ rows) none =
      let both = not_found row rows (eq_by_cmp R k row.0) refl none in
      ap₂ (λ (r : K × X) (rs : List (K × X)). r ∷ rs) (other_row f row ((eq_by_cmp_equiv o).symm row.0 k ∙ both.0)) (absent_made f rows both.1)

  -- as a map
  pub from_set : (f : X → X) (rows : List (K × X)) → IsStrictlySortedBy R (keys_of rows) → (i : ℕ) (v : X) → slice_get rows i ≡ Some (k, v)
      → from_entries {R = R} (set rows i (k, f v)) ≡ revise (made_at f) (from_entries rows)
  from_set f rows sorted i v at = ap (from_entries {R = R}) (set_made f rows sorted i v at) ∙ from_made R o same (made_at f) rows

  -- the keys stay
  pub keys-set : (f : X → X) (rows : List (K × X)) → IsStrictlySortedBy R (keys_of rows) → (i : ℕ) (v : X) → slice_get rows i ≡ Some (k, v) → keys_of (set rows i (k, f v)) ≡ keys_of rows
  keys-set f rows sorted i v at = ap keys_of (set_made f rows sorted i v at) ∙ keys-made R o same (made_at f) rows

  -- ---- by what is in the map

  made_none : (f : X → X) (m : Option X) (q : K) (b : Bool) → eq_by_cmp R q k ≡ b → (b ≡ true → m ≡ None) → m ≡ option_map (λ x. cond b (f x) x) m
  made_none f None q b is none = refl
  made_none f (Some x) q true is none = let e : Some x ≡ None = none refl in cc
  made_none f (Some x) q false is none = refl

  -- where nothing has the key, nothing is made anew
  pub unrevised : (f : X → X) (m : FinMap R X) → get m k ≡ None → m ≡ revise (made_at f) m
  unrevised f m none = same_map o same m (revise (made_at f) m) (λ q.
      made_none f (get m q) q (eq_by_cmp R q k) refl (λ e. ap (get m) (key_of same q k e) ∙ none) ∙ sym (get-revise same (made_at f) m q))

  put_by : (x v : X) (y : Option X) (b : Bool) → (b ≡ true → y ≡ Some v) → cond b (Some x) y ≡ option_map (λ z. cond b x z) y
  put_by x v y true h = sym (ap (option_map (λ z. x)) (h refl))
  put_by x v None false h = refl
  put_by x v (Some z) false h = refl

  -- to put a value in under a key that is there is to make its value anew
  pub insert_known : (x v : X) (m : FinMap R X) → get m k ≡ Some v → insert m k x ≡ revise (made_at (λ _. x)) m
  insert_known x v m known = same_map o same (insert m k x) (revise (made_at (λ _. x)) m) (λ q.
      get-insert o m k x q ∙ put_by x v (get m q) (eq_by_cmp R q k) (λ e. ap (get m) (key_of same q k e) ∙ known) ∙ sym (get-revise same (made_at (λ _. x)) m q))
