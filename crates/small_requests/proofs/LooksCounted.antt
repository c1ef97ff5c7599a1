-- The places of two lists, without those that are in both, are among the places of either.
use Rattle.std.proofs.Common.{◌≡◌, inl, inr, sym, ap, subst, ◌∙◌, arith, true≢false, ℕ, ◌+◌, ◌<◌, ◌≤◌, true, not, nat_eq, ◌||◌, List, [], ◌∷◌, ◌++◌, length, length-append, Contains}
use Rattle.std.specs.List.Sorted.{IsStrictlySortedBy}
use Rattle.std.specs.Ordering.{nat_cmp}
use Rattle.std.proofs.Math.Bool.{or-true}
use Rattle.std.proofs.lemmas.List.Elements.{Contains-append_cases}
use Rattle.std.proofs.lemmas.List.Kept.{IsStrictlySortedBy-filter}
use Rattle.plan_basics.specs.Keys.{operation_cmp, operation_cmp_total}
use Rattle.plan_basics.specs.declared.keys.OpKey.{OpKey}
use Rattle.operation_graph.proofs.Counts.{eqb_same}
use Rattle.ready_list.proofs.Members.{contains_from_filter}
use Rattle.plan_drafts.proofs.KeyPlaces.{one_place}
use Rattle.plan_drafts.proofs.Lists.{contains_cases, contains_none}
use Rattle.plan_checks.specs.derived_figures.specs.UnknownPlaces.{is_place_among, unknown_places}
use Rattle.small_requests.proofs.FewLooks.{length_within, once_both}
use Rattle.small_requests.proofs.PlaceKeys.{as_many, key_from, key_in, keys_at, once_at}
use Rattle.small_requests.specs.StepLooks.{AreBoth}

among_there : (known : List ℕ) (i : ℕ) → Contains known i → is_place_among known i ≡ true
among_there [] i has = absurd (contains_none i has)
among_there (p ∷ known) i has = elim (contains_cases p known i has) [
  | inl same ↦ ap (λ b. b || is_place_among known i) (eqb_same p i same)
  | inr later ↦ ap (λ b. nat_eq p i || b) (among_there known i later) ∙ or-true (nat_eq p i)
]

module _ (ks : List OpKey) (sorted : IsStrictlySortedBy operation_cmp ks) (first second all : List ℕ) (ascend : IsStrictlySortedBy nat_cmp first) (ascend_too : IsStrictlySortedBy nat_cmp second) (both : AreBoth first second all)
    (within : (i : ℕ) → Contains all i → i < length ks) where
  beside_in : (i : ℕ) → Contains (unknown_places first second) i → Contains second i × ¬ Contains first i
  beside_in i has =
      let r = contains_from_filter (λ j. not (is_place_among first j)) second i has in
      (r.0, λ there. true≢false (sym r.1 ∙ ap not (among_there first i there)))

  in_all : (k : OpKey) → Contains (keys_at ks first ++ keys_at ks (unknown_places first second)) k → Contains (keys_at ks all) k
  in_all k has = elim (Contains-append_cases (keys_at ks first) (keys_at ks (unknown_places first second)) k has) [
    | inl left ↦ let from = key_from ks first k left in key_in ks all from.0 k ((both.both from.0).1 (inl from.1)) from.2
    | inr right ↦ let from = key_from ks (unknown_places first second) k right in key_in ks all from.0 k ((both.both from.0).1 (inr (beside_in from.0 from.1).0)) from.2
  ]

  apart : (k : OpKey) → Contains (keys_at ks first) k → ¬ Contains (keys_at ks (unknown_places first second)) k
  apart k left right =
      let a = key_from ks first k left in
      let b = key_from ks (unknown_places first second) k right in
      (beside_in b.0 b.1).1 (subst (Contains first) (one_place operation_cmp_total ks sorted a.0 b.0 k a.2 b.2) a.1)

  pub few_both : length first + length (unknown_places first second) ≤ length all
  few_both = omega (
    arith,
    as_many ks first (λ i has. within i ((both.both i).1 (inl has))),
    as_many ks (unknown_places first second) (λ i has. within i ((both.both i).1 (inr (beside_in i has).0))),
    as_many ks all within,
    length-append (keys_at ks first) (keys_at ks (unknown_places first second)),
    length_within (keys_at ks first ++ keys_at ks (unknown_places first second)) (keys_at ks all)
        (once_both (keys_at ks first) (keys_at ks (unknown_places first second)) (once_at ks sorted first ascend)
        (once_at ks sorted (unknown_places first second) (IsStrictlySortedBy-filter nat_cmp (λ j. not (is_place_among first j)) second ascend_too)) apart)
        in_all,
  )
