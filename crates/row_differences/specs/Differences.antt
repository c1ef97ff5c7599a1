-- What is new, what differs and what is gone between a table as it was and as it is. Rows are named by their indices.
use Rattle.std.specs.Prelude.{◌≡◌, ◌<◌, ◌↔◌, ℕ, List, length, slice_get, Contains, Some}
use Rattle.std.specs.List.Sorted.{IsStrictlySortedBy}
use Rattle.std.specs.Ordering.{nat_cmp}

-- the row at i before and the row at j after have one key
abbrev pub HaveOneKey : {K : Type 0} → List K → List K → ℕ → ℕ → Type 0
HaveOneKey {K} before after i j = (k : K) × (slice_get before i ≡ Some k) × (slice_get after j ≡ Some k)

-- the row at j after is new, or isn't like the row of its key before
abbrev pub IsChanged : {K : Type 0} → List K → List K → (ℕ → ℕ → Type 0) → ℕ → Type 0
IsChanged before after IsAlike j = (j < length after) × ((i : ℕ) → HaveOneKey before after i j → ¬ IsAlike i j)

-- the row at i before has a key that no row has after
abbrev pub IsGone : {K : Type 0} → List K → List K → ℕ → Type 0
IsGone before after i = (i < length before) × ((j : ℕ) → ¬ HaveOneKey before after i j)

-- the rows after that changed, and the rows before that are gone, in order
pub record AreDifferences {K : Type 0} (before after : List K) (IsAlike : ℕ → ℕ → Type 0) (changed gone : List ℕ) : Type 0 where
  pub changed_ascend : IsStrictlySortedBy nat_cmp changed
  pub has_changed : (j : ℕ) → Contains changed j ↔ IsChanged before after IsAlike j
  pub gone_ascend : IsStrictlySortedBy nat_cmp gone
  pub has_gone : (i : ℕ) → Contains gone i ↔ IsGone before after i
