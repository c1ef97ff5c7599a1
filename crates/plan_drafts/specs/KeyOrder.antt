-- What is said, in order of its keys.
use Rattle.std.specs.Prelude.{◌≢◌, List, map}
use Rattle.std.specs.List.{AllPairs}
use Rattle.std.specs.List.Sorted.{IsPermutation, IsStrictlySortedBy}
use Rattle.std.specs.declared.cmp.Ordering.{Ordering}

-- no two have one key, and they are in order of their keys
pub record AreInKeyOrder {X K : Type 0} (cmp : K → K → Ordering) (key : X → K) (said ordered : List X) : Type 0 where
  pub distinct : AllPairs (λ a b. key a ≢ key b) said
  pub same : IsPermutation said ordered
  pub in_order : IsStrictlySortedBy cmp (map key ordered)
