-- Rows that are listed key by key, and then put in another order.
use Rattle.std.proofs.Common.{◌≡◌, ◌≢◌, inl, inr, sym, ◌∙◌, ap, subst, arith, ℕ, ◌+◌, ◌<◌, List, [], ◌∷◌, ◌++◌, map, Contains, Option, Some, None, slice_get, Ordering, Less}
use Rattle.std.specs.Prelude.{MatchOption}
use Rattle.std.specs.Cmp.{IsTotalOrder}
use Rattle.std.specs.FinMap.{IsAntisymmetric}
use Rattle.std.specs.List.Sorted.{IsPermutation, IsSortedByKey, IsStrictlySortedBy}
use Rattle.std.specs.Map.{keys_of}
use Rattle.std.specs.Option.{option_to_list}
use Rattle.std.proofs.lemmas.Bool.{cases_order}
use Rattle.std.proofs.lemmas.List.{append-nil, map-append}
use Rattle.std.proofs.lemmas.List.Sorted.{Contains-permutation, IsPermutation-sym}
use Rattle.std.proofs.lemmas.Option.{same_Some}
use Rattle.plan_reasons.specs.plan_core.specs.plan_status.proofs.Ascending.{keys_ascend, pushed_earlier, pushed_is, pushed_last, sorted_pushed}
use Rattle.plan_reasons.specs.plan_drafts.proofs.Keyed.{ascend_by}
use Rattle.plan_reasons.specs.plan_drafts.proofs.Lists.{contains_none, differ_unmap, differ_weaken, from_map, in_map, pairs_from_differ}
use Rattle.plan_reasons.specs.plan_drafts.proofs.Tables.{sorted_apart}
use Rattle.plan_outlooks.specs.Rows.{AreRowsOf}

-- k is the key of one of the first n entries
abbrev pub IsAmong : {K X : Type 0} → List (K × X) → ℕ → K → Type 0
IsAmong {K} {X} es n k = (i : ℕ) × (v : X) × (i < n) × (slice_get es i ≡ Some (k, v))

-- the rows of the first n entries
abbrev pub AreUpTo : {K X R : Type 0} → (K → K → Ordering) → List (K × X) → (R → K) → (K → Type 0) → (R → Type 0) → ℕ → List R → Type 0
AreUpTo order es key L Q n rows = AreRowsOf order key key (λ k. IsAmong es n k × L k) Q rows

pub none_among : {K X : Type 0} (es : List (K × X)) (k : K) → ¬ IsAmong es 0 k
none_among es k is = let less = is.2 in omega (arith, less)

module _ {K X R : Type 0} {order : K → K → Ordering} (total : IsTotalOrder order) (es : List (K × X)) (up : IsStrictlySortedBy order (keys_of es)) (key : R → K) (L : K → Type 0) (Q : R → Type 0) where
  -- there are none where none of these is to be listed
  pub none_yet : (n : ℕ) → ((k : K) → IsAmong es n k → ¬ L k) → AreUpTo order es key L Q n []
  unfolding IsStrictlySortedBy
  none_yet n not = record {
    in_order = tt;
    every = λ k. ((λ has. absurd (contains_none k has)), (λ is. absurd (not k is.0 is.1)));
    each = λ r has. absurd (contains_none r has);
  }

  module _ (n : ℕ) (k : K) (v : X) (at : slice_get es n ≡ Some (k, v)) (rows : List R) (a : AreUpTo order es key L Q n rows) where
    more : (l : K) → IsAmong es n l × L l → IsAmong es (n + 1) l × L l
    more l is = ((is.0.0, is.0.1, (let less = is.0.2 in omega (arith, less)), is.0.3), is.1)

    -- what is among one more is among those before, or it is this one
    which : (C : K → Type 0) (l : K) → IsAmong es (n + 1) l → (IsAmong es n l → C l) → C k → C l
    which C l (i, w, less, there) before this = elim (cases_order i n) [
      | inl same ↦
          let one : (l, w) ≡ (k, v) = same_Some (l, w) (k, v) (sym there ∙ ap (slice_get es) same ∙ at) in
          subst C (sym (ap (λ (z : K × X). z.0) one)) this
      | inr (inl earlier) ↦ before (i, w, earlier, there)
      | inr (inr later) ↦ absurd (omega (arith, less, later))
    ]

    below : (l : K) → Contains (map key rows) l → order l k ≡ Less
    below l has = let is = (a.every l).0 has in keys_ascend total es up is.0.0 n l k is.0.1 v is.0.3 at is.0.2

    pub one_more : (told : Option R) → MatchOption told (¬ L k) (λ r. (key r ≡ k) × L k × Q r) → AreUpTo order es key L Q (n + 1) (rows ++ option_to_list told)
    one_more None none = subst (AreUpTo order es key L Q (n + 1)) (sym (append-nil rows)) (record {
      in_order = a.in_order;
      every = λ l. (
        (λ has. more l ((a.every l).0 has)),
        (λ is. which (λ z. L z → Contains (map key rows) z) l is.0 (λ among so. (a.every l).1 (among, so)) (λ so. absurd (none so)) is.1),
      );
      each = a.each;
    })
    one_more (Some r) (is, so, row) = record {
      in_order = subst (IsStrictlySortedBy order) (sym keys_are) (sorted_pushed order (map key rows) (key r) a.in_order (λ l has. subst (λ z. order l z ≡ Less) (sym is) (below l has)));
      every = λ l. (
        (λ has. elim (pushed_is (map key rows) (key r) l (subst (λ ks. Contains ks l) keys_are has)) [
          | inl same ↦ subst (λ z. IsAmong es (n + 1) z × L z) (sym is ∙ same) ((n, v, omega arith, at), so)
          | inr old ↦ more l ((a.every l).0 old)
        ]),
        (λ there. subst (λ ks. Contains ks l) (sym keys_are)
            (which (λ z. L z → Contains (map key rows ++ key r ∷ []) z) l there.0
            (λ among h. pushed_earlier (map key rows) (key r) l ((a.every l).1 (among, h)))
            (λ h. subst (Contains (map key rows ++ key r ∷ [])) is (pushed_last (map key rows) (key r))) there.1)),
      );
      each = λ x has. elim (pushed_is rows r x has) [ inl same ↦ subst Q same row | inr old ↦ a.each x old ];
    }
      where
        keys_are : map key (rows ++ r ∷ []) ≡ map key rows ++ key r ∷ []
        keys_are = map-append key rows (r ∷ [])

  -- they are all where whatever is to be listed is among them
  pub all_listed : (n : ℕ) → ((k : K) → L k → IsAmong es n k) → (rows : List R) → AreUpTo order es key L Q n rows → AreRowsOf order key key L Q rows
  all_listed n among rows a = record {
    in_order = a.in_order;
    every = λ k. ((λ has. ((a.every k).0 has).1), (λ so. (a.every k).1 (among k so, so)));
    each = a.each;
  }

-- ---- in another order
module _ {R K G : Type 0} {order : K → K → Ordering} (total : IsTotalOrder order) (exact : IsAntisymmetric order) {places : G → G → Ordering} (places_total : IsTotalOrder places) (places_exact : IsAntisymmetric places)
    (key : R → K) (place : R → G) (told : (a b : R) → place a ≡ place b → key a ≡ key b) (L : K → Type 0) (Q : R → Type 0) (rows made : List R) (same : IsPermutation rows made) where
  pub placed : AreRowsOf order key key L Q rows → IsSortedByKey place places made → AreRowsOf places place key L Q made
  placed a sorted = record {
    in_order =
        ascend_by places_total places_exact place rows made same sorted
        (pairs_from_differ (λ a b. place a ≢ place b) rows
        (differ_weaken (λ a b. key a ≢ key b) (λ a b. place a ≢ place b) rows (λ a b in_a in_b apart e. apart (told a b e))
        (differ_unmap key (λ a b. a ≢ b) rows (sorted_apart total exact (map key rows) a.in_order))));
    every = λ k. (
      (λ has.
          let x = from_map key made k has in
          (a.every k).0 (subst (Contains (map key rows)) x.2 (in_map key rows x.0 (Contains-permutation made rows x.0 (IsPermutation-sym rows made same) x.1)))),
      (λ so.
          let x = from_map key rows k ((a.every k).1 so) in
          subst (Contains (map key made)) x.2 (in_map key made x.0 (Contains-permutation rows made x.0 same x.1))),
    );
    each = λ r has. a.each r (Contains-permutation made rows r (IsPermutation-sym rows made same) has);
  }
