-- The indices of keys, in order and each once.
use Rattle.std.proofs.Common.{◌≡◌, inl, inr, sym, ap, subst, ◌∙◌, ℕ, ◌<◌, true, List, [], ◌∷◌, Contains, Some, slice_get, All}
use Rattle.std.proofs.lemmas.Option.{same_Some, slice_get_within}
use Rattle.std.specs.FinMap.{entries, keys}
use Rattle.std.specs.List.Sorted.{IsStrictlySortedBy}
use Rattle.std.specs.Ordering.{nat_cmp}
use Rattle.plan_basics.proofs.Members.{all_by_members, contains_cases, contains_head, contains_mapped, contains_none, mapped_contains}
use Rattle.plan_basics.specs.Keys.{operation_cmp, operation_cmp_total, operation_cmp-IsAntisymmetric}
use Rattle.plan_basics.specs.declared.keys.OpKey.{OpKey}
use Rattle.plan_drafts.proofs.KeyPlaces.{one_place}
use Rattle.plan_drafts.proofs.Lists.{length_map}
use Rattle.plan_drafts.specs.PlanGraphs.{StandAt}
use Rattle.plan_model.proofs.Entries.{entries_in_order}
use Rattle.plan_model.proofs.Members.{if_member, member_if}
use Rattle.plan_model.specs.Contents.{Contents, IsInPlan, Operation}
use Rattle.plan_checks.specs.plan_status.proofs.RowKeys.{key_of_row}
use Rattle.ready_list.specs.Choice.{is_among}
use Rattle.small_requests.specs.RequestEdits.{ArePlacesOf, ArePlacesWhere}

module _ (P : Contents) (os : List OpKey) (places : List ℕ) (stand : StandAt (keys P.operations) places os) where
  abbrev nodes : List OpKey
  nodes = keys P.operations

  key_there : (i : ℕ) → Contains places i → (o : OpKey) × (slice_get nodes i ≡ Some o) × Contains os o
  key_there i has =
      let found = mapped_contains Some os (slice_get nodes i) (subst (λ xs. Contains xs (slice_get nodes i)) stand (contains_mapped (slice_get nodes) places i has)) in
      (found.0, sym found.1, found.2)

  place_there : (o : OpKey) → Contains os o → (i : ℕ) × (slice_get nodes i ≡ Some o) × Contains places i
  place_there o has = mapped_contains (slice_get nodes) places (Some o) (subst (λ xs. Contains xs (Some o)) (sym stand) (contains_mapped Some os o has))

  -- the same indices in order, each once, are those of the keys
  pub ascending_places : (ordered : List ℕ) → IsStrictlySortedBy nat_cmp ordered → ((i : ℕ) → Contains places i → Contains ordered i) → ((i : ℕ) → Contains ordered i → Contains places i) → ArePlacesOf P os ordered
  ascending_places ordered ascend keeps adds_none = record {
    ascend = ascend;
    within = λ i has.
        let key = key_there i (adds_none i has) in
        subst (λ n. i < n) (length_map (λ (row : OpKey × Operation). row.0) (entries P.operations)) (slice_get_within nodes i key.0 key.1);
    each = λ i o op at.
        let here : slice_get nodes i ≡ Some o = key_of_row (entries P.operations) i o op at in (
          λ has. let key = key_there i (adds_none i has) in if_member operation_cmp_total os o (subst (Contains os) (same_Some key.0 o (sym key.1 ∙ here)) key.2),
          λ among.
              let place = place_there o (member_if operation_cmp-IsAntisymmetric os o among) in
              subst (Contains ordered) (one_place operation_cmp_total nodes (entries_in_order operation_cmp P.operations) place.0 i o place.1 here) (keeps place.0 place.2),
        );
  }

-- what is so of the same keys has the same indices
pub places_alike : (P : Contents) (is are : OpKey → Type 0) (places : List ℕ) → ((o : OpKey) → is o → are o) → ((o : OpKey) → are o → is o) → ArePlacesWhere P is places → ArePlacesWhere P are places
places_alike P is are places forth back these = record {
  ascend = these.ascend;
  within = these.within;
  each = λ i o op at. (λ has. forth o ((these.each i o op at).0 has), λ h. (these.each i o op at).1 (back o h));
}

-- ---- one key

-- a list of one has no other member
pub sole : (o q : OpKey) → Contains (o ∷ []) q → o ≡ q
sole o q has = elim (contains_cases o [] q has) [ inl same ↦ same | inr later ↦ absurd (contains_none q later) ]

pub all_of_one : (P : Contents) (o : OpKey) → IsInPlan P o → All (IsInPlan P) (o ∷ [])
all_of_one P o known = all_by_members (IsInPlan P) (o ∷ []) (λ q has. subst (IsInPlan P) (sole o q has) known)

-- the indices of a list of one are those of what it is
pub places_of_one : (P : Contents) (o : OpKey) (places : List ℕ) → ArePlacesOf P (o ∷ []) places → ArePlacesWhere P (λ q. Some o ≡ Some q) places
places_of_one P o places are = places_alike P (λ q. is_among (o ∷ []) q ≡ true) (λ q. Some o ≡ Some q) places
    (λ q among. ap Some (sole o q (member_if operation_cmp-IsAntisymmetric (o ∷ []) q among)))
    (λ q same. if_member operation_cmp_total (o ∷ []) q (subst (Contains (o ∷ [])) (same_Some o q same) (contains_head o [])))
    are
