-- Rows in order, and the map that they hold.
use Rattle.std.proofs.Common.{◌≡◌, ◌<◌, sym, ap, subst, ◌∙◌, ℕ, true, List, length, get_or, set, slice_get, Option, Some, None, IsSome, IfSome, Ordering}
use Rattle.std.specs.Cmp.{IsTotalOrder}
use Rattle.std.specs.FinMap.{FinMap, IsAntisymmetric, contains_key, entries, from_entries, get, insert}
use Rattle.std.specs.List.Sorted.{IsStrictlySortedBy}
use Rattle.std.specs.Map.{keys_of}
use Rattle.std.proofs.lemmas.Option.{get_or_from_slice_get}
use Rattle.plan_model.proofs.Entries.{rows_in_order}
use Rattle.plan_model.specs.Revise.{revise}
use Rattle.plan_drafts.proofs.OneRow.{from_set, insert_known, keys-set, made_at}
use Rattle.plan_drafts.proofs.RowPlaces.{get_at}

module _ {K X : Type 0} {R : K → K → Ordering} (o : IsTotalOrder R) (exact : IsAntisymmetric R)
    (ds rows : List (K × X)) (same : ds ≡ rows) (m : FinMap R X) (is : from_entries rows ≡ m) (sorted : IsStrictlySortedBy R (keys_of rows)) where
  -- they are its entries
  pub as_entries : ds ≡ entries m
  as_entries = same ∙ sym (rows_in_order o rows sorted) ∙ ap entries is

  -- what it has, they have
  pub known_in : (k : K) → contains_key m k ≡ true → IsSome (get {R = R} (from_entries ds) k)
  known_in k known = subst (λ zs. IsSome (get {R = R} (from_entries zs) k)) (sym same) (subst (λ n. IsSome (get n k)) (sym is) known)

  -- what is found among them is found among its entries, and what isn't, it hasn't
  pub found_in : (k : K) (place : Option ℕ) → IfSome place (λ i. (v : X) × (slice_get ds i ≡ Some (k, v))) → IfSome place (λ i. (v : X) × (slice_get (entries m) i ≡ Some (k, v)))
  found_in k place = subst (λ zs. IfSome place (λ i. (v : X) × (slice_get zs i ≡ Some (k, v)))) as_entries

  pub absent_in : (k : K) → get {R = R} (from_entries ds) k ≡ None → get m k ≡ None
  absent_in k none = ap (λ n. get n k) (sym (ap from_entries same ∙ is)) ∙ none

  -- the index of what it has
  pub within_entries : (i : ℕ) → i < length ds → i < length (entries m)
  within_entries i = subst (λ zs. i < length zs) as_entries

  pub at_entry : (k : K) (i : ℕ) → (v : X) × (slice_get ds i ≡ Some (k, v)) → (v : X) × (slice_get (entries m) i ≡ Some (k, v))
  at_entry k i = subst (λ zs. (v : X) × (slice_get zs i ≡ Some (k, v))) as_entries

  module _ (k : K) (i : ℕ) (found : (v : X) × (slice_get ds i ≡ Some (k, v))) where
    at : slice_get rows i ≡ Some (k, found.0)
    at = subst (λ zs. slice_get zs i ≡ Some (k, found.0)) same found.1

    -- what is read at a key's index
    pub row_read : (read : K × X) → read ≡ get_or rows i read → read ≡ (k, found.0)
    row_read read reads = reads ∙ get_or_from_slice_get rows i (k, found.0) read at

    pub looked_up : (read : K × X) → read ≡ get_or rows i read → get m k ≡ Some read.1
    looked_up read reads = ap (λ n. get n k) (sym is) ∙ get_at R o exact rows sorted i k found.0 at ∙ ap (λ (r : K × X). Some r.1) (sym (row_read read reads))

    -- another value there
    pub put_in_order : (x : X) → IsStrictlySortedBy R (keys_of (set rows i (k, x)))
    put_in_order x = subst (IsStrictlySortedBy R) (sym (keys-set R o exact k (λ _. x) rows sorted i found.0 at)) sorted

    pub put_is : (x : X) → from_entries {R = R} (set rows i (k, x)) ≡ insert (from_entries rows) k x
    put_is x = from_set R o exact k (λ _. x) rows sorted i found.0 at ∙ sym (insert_known R o exact k x found.0 (from_entries rows) (get_at R o exact rows sorted i k found.0 at))

    -- a row there that has the same key, and its value made anew
    module _ (row : K × X) (f : X → X) (puts : row ≡ (k, f found.0)) where
      pub anew_in_order : IsStrictlySortedBy R (keys_of (set rows i row))
      anew_in_order = subst (λ (r : K × X). IsStrictlySortedBy R (keys_of (set rows i r))) (sym puts) (put_in_order (f found.0))

      pub made_anew : from_entries {R = R} (set rows i row) ≡ revise (made_at R o exact k f) (from_entries rows)
      made_anew = ap (λ (r : K × X). from_entries {R = R} (set rows i r)) puts ∙ from_set R o exact k f rows sorted i found.0 at

    -- a row there that has the same key
    module _ (row : K × X) (x : X) (puts : row ≡ (k, x)) where
      pub row_in_order : IsStrictlySortedBy R (keys_of (set rows i row))
      row_in_order = subst (λ (r : K × X). IsStrictlySortedBy R (keys_of (set rows i r))) (sym puts) (put_in_order x)

      pub row_is : from_entries {R = R} (set rows i row) ≡ insert (from_entries rows) k x
      row_is = ap (λ (r : K × X). from_entries {R = R} (set rows i r)) puts ∙ put_is x
