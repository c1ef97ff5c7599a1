-- The keys at ascending indices: as many as these, and none twice.
use Rattle.std.proofs.Common.{◌≡◌, refl, sym, ap, subst, ◌∙◌, arith, ℕ, ◌+◌, ◌<◌, false, List, [], ◌∷◌, length, Contains, Option, Some, None, slice_get}
use Rattle.std.specs.List.{IsDistinct, cons_option, filter_map}
use Rattle.std.specs.List.Sorted.{IsStrictlySortedBy}
use Rattle.std.specs.Ordering.{eq_by_cmp, nat_cmp}
use Rattle.std.specs.declared.cmp.Ordering.TheVariants.{Less}
use Rattle.std.proofs.lemmas.Cmp.{nat_cmp_total}
use Rattle.plan_basics.specs.Keys.{operation_cmp, operation_cmp_total}
use Rattle.plan_basics.specs.declared.keys.OpKey.{OpKey}
use Rattle.plan_drafts.proofs.KeyPlaces.{one_place}
use Rattle.plan_drafts.proofs.Lists.{at_member, contains_head, contains_later, from_filter, in_filter}
use Rattle.plan_drafts.proofs.RowPlaces.{row_at}
use Rattle.ready_list.proofs.Members.{all_by_members}
use Rattle.plan_checks.specs.plan_laws.proofs.Sorted.{not_itself}
use Rattle.small_requests.proofs.FewLooks.{not_same}
use Rattle.small_requests.specs.FewLooks.{AreOnce}

-- the keys at these indices
abbrev pub keys_at : List OpKey → List ℕ → List OpKey
keys_at ks places = filter_map (slice_get ks) places

module _ (ks : List OpKey) where
  pub key_in : (places : List ℕ) (i : ℕ) (o : OpKey) → Contains places i → slice_get ks i ≡ Some o → Contains (keys_at ks places) o
  key_in = in_filter (slice_get ks)

  pub key_from : (places : List ℕ) (o : OpKey) → Contains (keys_at ks places) o → (i : ℕ) × Contains places i × (slice_get ks i ≡ Some o)
  key_from = from_filter (slice_get ks)

  pub as_many : (places : List ℕ) → ((i : ℕ) → Contains places i → i < length ks) → length (keys_at ks places) ≡ length places
  as_many [] within = refl
  as_many (i ∷ places) within =
      let at = row_at ks i (within i (contains_head i places)) in
      let here : length (keys_at ks (i ∷ places)) ≡ length (keys_at ks places) + 1 = ap (λ x. length (cons_option x (keys_at ks places))) at.1 ∙ omega arith in
      omega (arith, here, as_many places (λ j has. within j (contains_later i places j has)))

  module _ (sorted : IsStrictlySortedBy operation_cmp ks) where
    pub once_at : (places : List ℕ) → IsStrictlySortedBy nat_cmp places → AreOnce (keys_at ks places)
    unfolding IsDistinct IsStrictlySortedBy
    once_at [] ascend = tt
    once_at (i ∷ places) ascend = by_key (slice_get ks i) refl (once_at places ascend.1)
      where
        by_key : (x : Option OpKey) → slice_get ks i ≡ x → AreOnce (keys_at ks places) → AreOnce (cons_option x (keys_at ks places))
        by_key None e rest = rest
        by_key (Some o) e rest = (
          all_by_members (λ k. eq_by_cmp operation_cmp o k ≡ false) (keys_at ks places) (λ k has. not_same o k (λ is.
              let from = key_from places k has in
              let one : i ≡ from.0 = one_place operation_cmp_total ks sorted i from.0 k (e ∙ ap Some is) from.2 in
              not_itself nat_cmp_total i (subst (λ j. nat_cmp i j ≡ Less) (sym one) (at_member (λ j. nat_cmp i j ≡ Less) places from.0 ascend.0 from.1)))),
          rest,
        )
