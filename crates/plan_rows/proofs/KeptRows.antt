-- Rows that are made of what a map has, one of each entry.
use Rattle.std.proofs.Common.{◌≡◌, refl, List, [], ◌∷◌, map, Contains, Some, Ordering}
use Rattle.std.specs.Cmp.{IsTotalOrder}
use Rattle.std.specs.FinMap.{FinMap, IsAntisymmetric, entries, get}
use Rattle.std.specs.Map.{keys_of}
use Rattle.plan_basics.proofs.Members.{at_place, contains_head, contains_later, contains_mapped, mapped_contains, place_of}
use Rattle.plan_records.specs.plan_drafts.proofs.EntryRows.{entry_of, row_in}
use Rattle.plan_records.specs.plan_drafts.specs.declared.RowKey.{RowKey}
use Rattle.plan_records.specs.Rows.{key_of}
use Rattle.plan_records.specs.declared.PlanRow.{PlanRow}

module _ {K X : Type 0} {R : K → K → Ordering} (o : IsTotalOrder R) (exact : IsAntisymmetric R) (m : FinMap R X) where
  -- an entry is what the map has, and what it has is an entry
  pub kept_is : (z : K × X) → Contains (entries m) z → get m z.0 ≡ Some z.1
  kept_is z has = let at = place_of (entries m) z has in row_in o exact m at.0 z.0 z.1 at.1

  pub kept_has : (k : K) (x : X) → get m k ≡ Some x → Contains (entries m) (k, x)
  kept_has k x is = let at = entry_of o exact m k x is in at_place (entries m) at.0 (k, x) at.1

module _ {K X : Type 0} {R : K → K → Ordering} (o : IsTotalOrder R) (exact : IsAntisymmetric R) {Y : Type 0} (row_of : K × X → Y) (m : FinMap R X) where
  -- each is made of what the map has
  pub kept_from : (r : Y) → Contains (map row_of (entries m)) r → (k : K) × (x : X) × (get m k ≡ Some x) × (row_of (k, x) ≡ r)
  kept_from r has = let z = mapped_contains row_of (entries m) r has in (z.0.0, z.0.1, kept_is o exact m z.0 z.2, z.1)

  -- and of all of it
  pub kept_there : (k : K) (x : X) → get m k ≡ Some x → Contains (map row_of (entries m)) (row_of (k, x))
  kept_there k x is = contains_mapped row_of (entries m) (k, x) (kept_has o exact m k x is)

-- rows under their keys
pub keyed_by : {K X : Type 0} (name : K → RowKey) (row_of : K × X → PlanRow) → ((z : K × X) → key_of (row_of z) ≡ name z.0) → (xs : List (K × X)) → map key_of (map row_of xs) ≡ map name (keys_of xs)
keyed_by name row_of same [] = refl
keyed_by name row_of same (x ∷ xs) = λ i. same x i ∷ keyed_by name row_of same xs i

-- the same of rows that bear their keys where they are in the list
pub keyed_members : {K X : Type 0} (name : K → RowKey) (row_of : K × X → PlanRow) (xs : List (K × X)) → ((z : K × X) → Contains xs z → key_of (row_of z) ≡ name z.0) → map key_of (map row_of xs) ≡ map name (keys_of xs)
keyed_members name row_of [] same = refl
keyed_members name row_of (x ∷ xs) same =
    let first = same x (contains_head x xs) in
    let rest = keyed_members name row_of xs (λ z has. same z (contains_later x xs z has)) in
    λ i. first i ∷ rest i
