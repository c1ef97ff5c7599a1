-- Rows of a key and a value each.
use Rattle.std.specs.Prelude.{◌≡◌, ℕ, Bool, true, List, slice_get, Some}

-- the values of the row at i before and the row at j after are equal
abbrev pub HaveEqualValues : {K X : Type 0} → (X → X → Bool) → List (K × X) → List (K × X) → ℕ → ℕ → Type 0
HaveEqualValues {K} {X} eq before after i j = (x y : K × X) × (slice_get before i ≡ Some x) × (slice_get after j ≡ Some y) × (eq x.1 y.1 ≡ true)
