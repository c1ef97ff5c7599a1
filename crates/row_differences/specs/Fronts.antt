-- What is known of the next rows of two tables.
use Rattle.std.specs.Prelude.{◌≡◌, ◌≤◌, ℕ, List, slice_get, Some}
use Rattle.std.specs.declared.cmp.Ordering.{Ordering}
use Rattle.std.specs.declared.cmp.Ordering.TheVariants.{Less}

-- the key at i in ks comes before each key of ls from j on
abbrev pub IsFirst : {K : Type 0} → (K → K → Ordering) → List K → List K → ℕ → ℕ → Type 0
IsFirst {K} R ks ls i j = (k : K) × (slice_get ks i ≡ Some k) × ((n : ℕ) (l : K) → j ≤ n → slice_get ls n ≡ Some l → R k l ≡ Less)
