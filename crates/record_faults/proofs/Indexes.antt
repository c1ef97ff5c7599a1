-- The map of the first place of each key, as places are gone through one by one.
use Rattle.std.proofs.Common.{◌≡◌, inl, inr, refl, sym, ap, subst, ◌∙◌, true≢false, arith, ℕ, ◌+◌, ◌<◌, Bool, true, false, cond, List, [], length, slice_get, Option, Some, None, is_some, MatchOption}
use Rattle.std.specs.Map.{lookup}
use Rattle.std.specs.BTreeMap.{BTreeMap, is_at}
use Rattle.std.proofs.lemmas.Bool.{cases_lt}
use Rattle.std.proofs.lemmas.Option.{none-some, same_Some, slice_get_within}
use Rattle.plan_basics.proofs.Members.{tied_is}
use Rattle.plan_drafts.specs.declared.RowKey.{RowKey}
use Rattle.plan_drafts.specs.contracts.RowKeyOrd.TheImpl as derived
use Rattle.plan_drafts.specs.contracts.RowKeyOrd.TheImpl.Laws as laws
use Rattle.plan_drafts.specs.RowKeys.{derived_exact}
use Rattle.plan_drafts.proofs.Tables.{itself}
use Rattle.record_faults.specs.Sayings.{PlacedKeys, IsGiven, IsFirst, IsNowhere, place_in, IsIndexBelow, IsIndex}

-- two keys that one place gives are the same
pub one_given : {K : Type 0} (keys : List (Option K)) (i : ℕ) (a b : K) → IsGiven keys a i → IsGiven keys b i → a ≡ b
one_given keys i a b at_a at_b = same_Some a b (same_Some (Some a) (Some b) (sym at_a ∙ at_b))

-- a place that gives none gives no key
pub none_given : {K : Type 0} (keys : List (Option K)) (i : ℕ) (k : K) → slice_get keys i ≡ Some None → ¬ IsGiven keys k i
none_given keys i k none at = none-some k (same_Some None (Some k) (sym none ∙ at))

-- an empty map is that of no places
pub empty_index : (keys : PlacedKeys) (index : BTreeMap RowKey ℕ) → index.entries ≡ [] → IsIndexBelow keys 0 index
empty_index keys index empty = record {
  found = λ k first e. absurd (none-some first (sym (ap (λ es. lookup (is_at (derived.ghosts.cmp k)) es) empty) ∙ e));
  absent = λ k e i lt. absurd (omega arith);
}

-- a place that gives no key changes nothing
pub keep_none : (keys : PlacedKeys) (n : ℕ) (index : BTreeMap RowKey ℕ) → slice_get keys n ≡ Some None → IsIndexBelow keys n index → IsIndexBelow keys (n + 1) index
keep_none keys n index here is = record {
  found = λ k first e. let r = is.found k first e in let lt = r.0 in (omega (arith, lt), r.1);
  absent = λ k e i lt at. elim (cases_lt i n) [
    | inl less ↦ is.absent k e i less at
    | inr more ↦ let same : i ≡ n = omega (arith, lt, more) in none_given keys n k here (subst (IsGiven keys k) same at)
  ];
}

-- nor does one that gives a key again
pub keep_known : (keys : PlacedKeys) (n : ℕ) (index : BTreeMap RowKey ℕ) (key : RowKey) → slice_get keys n ≡ Some (Some key) → is_some (place_in index key) ≡ true → IsIndexBelow keys n index → IsIndexBelow keys (n + 1) index
keep_known keys n index key here known is = record {
  found = λ k first e. let r = is.found k first e in let lt = r.0 in (omega (arith, lt), r.1);
  absent = λ k e i lt at. elim (cases_lt i n) [
    | inl less ↦ is.absent k e i less at
    | inr more ↦
        let same : i ≡ n = omega (arith, lt, more) in
        let one : key ≡ k = one_given keys n key k here (subst (IsGiven keys k) same at) in
        absurd (true≢false (sym known ∙ ap (λ z. is_some (place_in index z)) one ∙ ap is_some e))
  ];
}

-- a new key is kept with its place
module _ (keys : PlacedKeys) (n : ℕ) (key : RowKey) (old new : BTreeMap RowKey ℕ) (here : slice_get keys n ≡ Some (Some key)) (none : place_in old key ≡ None) (updates : (q : RowKey) → place_in new q ≡ cond (is_at (derived.ghosts.cmp key) q) (Some n) (place_in old q)) (is : IsIndexBelow keys n old) where
  found_at : (k : RowKey) (first : ℕ) (b : Bool) → is_at (derived.ghosts.cmp key) k ≡ b → cond b (Some n) (place_in old k) ≡ Some first → (first < n + 1) × IsFirst keys k first
  found_at k first true t e =
      let one : key ≡ k = tied_is derived_exact key k t in
      let same : n ≡ first = same_Some n first e in
      let first_here : IsFirst keys key n = record { here = here; none_before = λ i lt. is.absent key none i lt } in
      (omega (arith, same), subst (λ m. IsFirst keys k m) same (subst (λ z. IsFirst keys z n) one first_here))
  found_at k first false t e = let r = is.found k first e in let lt = r.0 in (omega (arith, lt), r.1)

  absent_at : (k : RowKey) (i : ℕ) (b : Bool) → is_at (derived.ghosts.cmp key) k ≡ b → cond b (Some n) (place_in old k) ≡ None → i < n + 1 → ¬ IsGiven keys k i
  absent_at k i true t e lt at = none-some n (sym e)
  absent_at k i false t e lt at = elim (cases_lt i n) [
    | inl less ↦ is.absent k e i less at
    | inr more ↦
        let same : i ≡ n = omega (arith, lt, more) in
        let one : key ≡ k = one_given keys n key k here (subst (IsGiven keys k) same at) in
        true≢false (sym (itself laws.total-law derived_exact key) ∙ ap (λ z. is_at (derived.ghosts.cmp key) z) one ∙ t)
  ]

  pub keep_new : IsIndexBelow keys (n + 1) new
  keep_new = record {
    found = λ k first e. found_at k first (is_at (derived.ghosts.cmp key) k) refl (sym (updates k) ∙ e);
    absent = λ k e i lt. absent_at k i (is_at (derived.ghosts.cmp key) k) refl (sym (updates k) ∙ e) lt;
  }

-- once all places are gone through, the map has the first place of each key
pub whole_index : (keys : PlacedKeys) (index : BTreeMap RowKey ℕ) → IsIndexBelow keys (length keys) index → IsIndex keys index
whole_index keys index is k = elim (place_in index k) as (λ o. place_in index k ≡ o → MatchOption o (IsNowhere keys k) (IsFirst keys k)) [
  | None ↦ λ e i at. is.absent k e i (slice_get_within keys i (Some k) at) at
  | Some first ↦ λ e. (is.found k first e).1
] refl
