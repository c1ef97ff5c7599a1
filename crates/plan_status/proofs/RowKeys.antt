-- Indices of rows, and those of their keys.
use Rattle.std.proofs.Common.{◌≡◌, sym, ap, subst, ◌∙◌, ℕ, zero, suc, ◌<◌, List, [], ◌∷◌, get_or, length, slice_get, Some, option_map}
use Rattle.std.specs.Map.{keys_of}
use Rattle.std.proofs.lemmas.Option.{slice_get-get_or, slice_get-map}

module _ {K V : Type 0} where
  pub key_of_row : (rows : List (K × V)) (i : ℕ) (k : K) (v : V) → slice_get rows i ≡ Some (k, v) → slice_get (keys_of rows) i ≡ Some k
  key_of_row rows i k v at = slice_get-map (λ (row : K × V). row.0) rows i ∙ ap (option_map (λ (row : K × V). row.0)) at

  pub row_of_key : (rows : List (K × V)) (i : ℕ) (k : K) → slice_get (keys_of rows) i ≡ Some k → (v : V) × (slice_get rows i ≡ Some (k, v))
  row_of_key [] i k at = cc
  row_of_key (row ∷ rows) zero k at = let same : row.0 ≡ k = cc in (row.1, ap (λ z. Some (z, row.1)) same)
  row_of_key (row ∷ rows) (suc i) k at = row_of_key rows i k at

-- what is read of rows that are lent as a slice is there
pub row_lent : {X : Type 0} (lent rows : List X) → lent ≡ rows → (i : ℕ) (x : X) → i < length lent → x ≡ get_or lent i x → slice_get rows i ≡ Some x
row_lent lent rows same i x lt is = subst (λ xs. slice_get xs i ≡ Some x) same (slice_get-get_or lent i x lt ∙ ap Some (sym is))

-- and so is what is read at an index
pub row_read : {X : Type 0} (lent rows : List X) → lent ≡ rows → (i : ℕ) (d : X) → i < length rows → slice_get rows i ≡ Some (get_or lent i d)
row_read lent rows same i d lt = subst (λ xs. slice_get xs i ≡ Some (get_or lent i d)) same (slice_get-get_or lent i d (subst (λ xs. i < length xs) (sym same) lt))
