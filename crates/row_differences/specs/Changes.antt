-- The rows of tables that are new or differ, and the keys that are gone.
use Rattle.std.specs.Prelude.{◌≡◌, ◌↔◌, ℕ, List, map, slice_get, Contains, Some}
use Rattle.std.specs.List.Sorted.{IsStrictlySortedBy}
use Rattle.std.specs.declared.cmp.Ordering.{Ordering}

-- one of these rows has this key
abbrev pub HasRowOf : {Row L : Type 0} → (Row → L) → (Row → Type 0) → L → Type 0
HasRowOf {Row} key_of IsIn k = (r : Row) × IsIn r × (key_of r ≡ k)

-- the rows after that weren't rows before, and the keys before that no row has after, in order
pub record AreRowChanges {Row L : Type 0} (R : L → L → Ordering) (key_of : Row → L) (WasRow IsRow : Row → Type 0) (rows : List Row) (gone : List L) : Type 0 where
  pub rows_ascend : IsStrictlySortedBy R (map key_of rows)
  pub has_rows : (r : Row) → Contains rows r ↔ (IsRow r × ¬ WasRow r)
  pub gone_ascend : IsStrictlySortedBy R gone
  pub has_gone : (k : L) → Contains gone k ↔ (HasRowOf key_of WasRow k × ¬ HasRowOf key_of IsRow k)

-- ys are the elements of xs at these indices
abbrev pub AreAt : {X : Type 0} → List X → List ℕ → List X → Type 0
AreAt xs places ys = map (slice_get xs) places ≡ map Some ys
