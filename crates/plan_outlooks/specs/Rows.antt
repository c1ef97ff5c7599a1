-- How rows are listed.
use Rattle.std.specs.Prelude.{◌↔◌, List, map, Contains}
use Rattle.std.specs.List.Sorted.{IsStrictlySortedBy}
use Rattle.std.specs.declared.cmp.Ordering.{Ordering}

-- the rows of all keys of which this is so, one for each, in the order of their places
pub record AreRowsOf {R K G : Type 0} (order : G → G → Ordering) (place : R → G) (key : R → K) (IsListed : K → Type 0) (IsRow : R → Type 0) (rows : List R) : Type 0 where
  pub in_order : IsStrictlySortedBy order (map place rows)
  pub every : (k : K) → Contains (map key rows) k ↔ IsListed k
  pub each : (r : R) → Contains rows r → IsRow r
