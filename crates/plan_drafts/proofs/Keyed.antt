-- What is sorted by a key, and told apart by it.
use Rattle.std.proofs.Common.{◌≡◌, ◌≢◌, ◌↔◌, refl, sym, subst, ap, ◌∙◌, ℕ, true, false, true≢false, cond, IsTrue, List, map, slice_get, Contains, Option, Some, None, is_some, IfSome, IsNone, Result, Ok, Err}
use Rattle.std.specs.Prelude.{IfOk, MatchOption}
use Rattle.std.specs.List.{AllPairs, filter_map}
use Rattle.std.specs.List.Sorted.{IsPermutation, IsSortedByKey, IsStrictlySortedBy}
use Rattle.std.specs.Ordering.{eq_by_cmp}
use Rattle.std.specs.Map.{keys_of}
use Rattle.std.specs.declared.cmp.Ordering.{Ordering}
use Rattle.std.specs.Cmp.{IsTotalOrder}
use Rattle.std.specs.FinMap.{IsAntisymmetric, get, from_entries}
use Rattle.std.proofs.lemmas.List.Sorted.{IsPermutation-sym, Contains-permutation}
use Rattle.std.proofs.lemmas.Option.{slice_get_within, get_or_from_slice_get, same_Some, none-some}
use Rattle.plan_basics.proofs.Members.{tied_is}
use Rattle.plan_drafts.proofs.Lists.{in_map, from_map, in_filter, from_filter, differ_from_pairs, pairs_from_differ, differ_map, differ_unmap}
use Rattle.plan_drafts.proofs.Tables.{sorted_apart, rows_apart, get_row, itself, other_key}
use Rattle.plan_drafts.proofs.Orders.{differ_permuted, strict_from_sorted}

module _ {K X : Type 0} {R : K → K → Ordering} (total : IsTotalOrder R) (exact : IsAntisymmetric R) (key : X → K) (said ordered : List X) (same : IsPermutation said ordered) where
  -- what is sorted by a key, no two of one key, ascends
  pub ascend_by : IsSortedByKey key R ordered → AllPairs (λ a b. key a ≢ key b) said → IsStrictlySortedBy R (map key ordered)
  ascend_by sorted apart = strict_from_sorted total exact key ordered sorted (differ_permuted total exact key said ordered same (differ_from_pairs (λ a b. key a ≢ key b) said apart))

  -- where the keys ascend, no two have one key
  pub apart_by : IsStrictlySortedBy R (map key ordered) → AllPairs (λ a b. key a ≢ key b) said
  apart_by up =
      pairs_from_differ (λ a b. key a ≢ key b) said (differ_permuted total exact key ordered said (IsPermutation-sym said ordered same)
      (differ_unmap key (λ a b. a ≢ b) ordered (sorted_apart total exact (map key ordered) up)))

-- what is answered of P and A, answered of what follows from them
pub answered : {V E P Q : Type 0} {A B : V → Type 0} (r : Result (Option V) E) → (Q → P) → ((v : V) → A v → B v) → IfOk r (λ found. MatchOption found (¬ P) A) → IfOk r (λ found. MatchOption found (¬ Q) B)
answered (Ok (Some v)) none some h = some v h
answered (Ok None) none some h = λ q. h (none q)
answered (Err e) none some h = tt

-- ---- rows that are made of what is said, each under its key
module _ {S K X : Type 0} (key : S → K) (make : S → X) (said : List S) where
  abbrev row : S → K × X
  row s = (key s, make s)

  -- no two rows have one key where no two that are said do
  pub made_apart : AllPairs (λ a b. key a ≢ key b) said → AllPairs (λ a b. a.0 ≢ b.0) (map row said)
  made_apart apart = pairs_from_differ (λ a b. a.0 ≢ b.0) (map row said) (differ_map row (λ a b. a.0 ≢ b.0) said (differ_from_pairs (λ a b. key a ≢ key b) said apart))

  -- and the way back
  pub said_apart : AllPairs (λ a b. a.0 ≢ b.0) (map row said) → AllPairs (λ a b. key a ≢ key b) said
  said_apart apart = pairs_from_differ (λ a b. key a ≢ key b) said (differ_unmap row (λ a b. a.0 ≢ b.0) said (differ_from_pairs (λ a b. a.0 ≢ b.0) (map row said) apart))

  -- they are in any order
  module _ (rows : List (K × X)) (same : IsPermutation (map row said) rows) where
    -- the keys that are said and those of the rows are the same
    pub key_to_row : (k : K) → Contains (map key said) k → Contains (keys_of rows) k
    key_to_row k has =
        let s = from_map key said k has in
        subst (Contains (keys_of rows)) s.2 (in_map (λ (r : K × X). r.0) rows (row s.0) (Contains-permutation (map row said) rows (row s.0) same (in_map row said s.0 s.1)))

    pub row_to_key : (k : K) → Contains (keys_of rows) k → Contains (map key said) k
    row_to_key k has =
        let r = from_map (λ (r : K × X). r.0) rows k has in
        let s = from_map row said r.0 (Contains-permutation rows (map row said) r.0 (IsPermutation-sym (map row said) rows same) r.1) in
        subst (Contains (map key said)) (ap (λ (r : K × X). r.0) s.2 ∙ r.2) (in_map key said s.0 s.1)

-- ---- what is said of one key
-- what a row says, if it is of that key
abbrev pub own : {K X : Type 0} → (K → K → Ordering) → K → K × X → Option X
own R k said = cond (eq_by_cmp R said.0 k) (Some said.1) None

module _ {K X : Type 0} {R : K → K → Ordering} (total : IsTotalOrder R) (exact : IsAntisymmetric R) where
  pub own_is : (k : K) (said : K × X) → said.0 ≡ k → own R k said ≡ Some said.1
  own_is k said same = ap (λ b. cond b (Some said.1) None) (ap (λ z. eq_by_cmp R z k) same ∙ itself total exact k)

  pub own_not : (k : K) (said : K × X) → said.0 ≢ k → own R k said ≡ None
  own_not k said apart = ap (λ b. cond b (Some said.1) None) (other_key total exact said.0 k apart)

  pub own_from : (k : K) (said : K × X) (x : X) → own R k said ≡ Some x → (said.0 ≡ k) × (said.1 ≡ x)
  own_from k said x e = elim (eq_by_cmp R said.0 k) as (λ t. eq_by_cmp R said.0 k ≡ t → cond t (Some said.1) None ≡ Some x → (said.0 ≡ k) × (said.1 ≡ x)) [
    | true ↦ λ t f. (tied_is exact said.0 k t, same_Some said.1 x f)
    | false ↦ λ t f. absurd (none-some x f)
  ] refl e

  pub in_own : (rows : List (K × X)) (k : K) (x : X) → Contains rows (k, x) → Contains (filter_map (own R k) rows) x
  in_own rows k x has = in_filter (own R k) rows (k, x) x has (own_is k (k, x) refl)

  pub from_own : (rows : List (K × X)) (k : K) (x : X) → Contains (filter_map (own R k) rows) x → Contains rows (k, x)
  from_own rows k x has =
      let r = from_filter (own R k) rows x has in
      let is = own_from k r.0 x r.2 in
      subst (Contains rows) (λ i. (is.0 i, is.1 i)) r.1

-- an index that is looked up shows whether a row has the key
pub key_told :
    {K X : Type 0} {R : K → K → Ordering} (total : IsTotalOrder R) (exact : IsAntisymmetric R) (rows : List (K × X)) (key : K) (place : Option ℕ) → IsStrictlySortedBy R (keys_of rows) →
    IfSome place (λ i. (x : X) × (slice_get rows i ≡ Some (key, x))) → (IsNone place → get {R = R} (from_entries rows) key ≡ None) →
    IsTrue (is_some place) ↔ Contains (keys_of rows) key
key_told {K} {X} total exact rows key (Some i) up (x, at) absent = (λ _. in_map (λ (row : K × X). row.0) rows (key, x) (i, slice_get_within rows i (key, x) at, get_or_from_slice_get rows i (key, x) (key, x) at), λ _. refl)
key_told {K} {X} total exact rows key None up found absent = (
  λ e. absurd (true≢false (sym e)),
  λ has.
      let r = from_map (λ (row : K × X). row.0) rows key has in
      absurd (none-some r.0.1 (sym (absent refl) ∙ get_row total exact rows key r.0.1 (rows_apart total exact rows up) (subst (λ k. Contains rows (k, r.0.1)) r.2 r.1))),
)
