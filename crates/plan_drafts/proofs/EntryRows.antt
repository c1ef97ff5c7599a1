-- The entries of a map as rows.
use Rattle.std.proofs.Common.{◌≡◌, sym, ap, ◌∙◌, subst, ℕ, true, Contains, slice_get, Some, Ordering}
use Rattle.std.specs.Cmp.{IsTotalOrder}
use Rattle.std.specs.FinMap.{FinMap, IsAntisymmetric, contains_key, entries, get}
use Rattle.std.specs.Map.{keys_of}
use Rattle.plan_basics.proofs.Members.{place_of}
use Rattle.plan_drafts.proofs.Lists.{from_map}
use Rattle.plan_drafts.proofs.RowPlaces.{get_at, place_of_found}
use Rattle.plan_drafts.proofs.Tables.{key_found}
use Rattle.plan_model.proofs.Entries.{entries_are, entries_in_order}

module _ {K X : Type 0} {R : K → K → Ordering} (o : IsTotalOrder R) (exact : IsAntisymmetric R) (m : FinMap R X) where
  -- a row is what the map has of its key
  pub row_in : (i : ℕ) (k : K) (v : X) → slice_get (entries m) i ≡ Some (k, v) → get m k ≡ Some v
  row_in i k v at = ap (λ n. get n k) (sym (entries_are R o exact m)) ∙ get_at R o exact (entries m) (entries_in_order R m) i k v at

  -- and what it has has a row
  pub entry_of : (k : K) (v : X) → get m k ≡ Some v → (i : ℕ) × (slice_get (entries m) i ≡ Some (k, v))
  entry_of k v is = place_of_found R o exact (entries m) k v (ap (λ n. get n k) (entries_are R o exact m) ∙ is)

  pub among_keys : (k : K) → contains_key m k ≡ true → Contains (keys_of (entries m)) k
  among_keys k known = key_found o exact (entries m) k (subst (λ n. contains_key n k ≡ true) (sym (entries_are R o exact m)) known)

  pub has_key : (k : K) → Contains (keys_of (entries m)) k → (v : X) × (get m k ≡ Some v)
  has_key k has =
      let r = from_map (λ (p : K × X). p.0) (entries m) k has in
      let at = place_of (entries m) r.0 r.1 in
      (r.0.1, row_in at.0 k r.0.1 (at.1 ∙ ap (λ z. Some (z, r.0.1)) r.2))
