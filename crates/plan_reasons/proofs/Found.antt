-- Operations at indices, with their statuses.
use Rattle.std.proofs.Common.{◌≡◌, refl, sym, ap, ap₂, subst, ◌∙◌, ℕ, ◌<◌, List, [], ◌∷◌, ◌++◌, map, Contains, Option, Some, slice_get}
use Rattle.std.specs.FinMap.{entries}
use Rattle.std.specs.List.{AllPairs}
use Rattle.std.specs.Map.{keys_of}
use Rattle.std.specs.declared.cmp.Ordering.TheVariants.{Less}
use Rattle.std.proofs.lemmas.List.Elements.{All-contains, All-push}
use Rattle.std.proofs.lemmas.List.{map-append}
use Rattle.std.proofs.lemmas.Map.Keys.{Less-from_sorted}
use Rattle.std.proofs.lemmas.Option.{get_or_from_slice_get, same_Some, slice_get_within}
use Rattle.plan_basics.specs.Keys.{operation_cmp}
use Rattle.plan_basics.specs.declared.keys.OpKey.{OpKey}
use Rattle.plan_drafts.proofs.Lists.{Differ, differ_from_pairs, differ_map, differ_unmap, differ_weaken, from_map, in_map, pairs_from_differ}
use Rattle.plan_model.proofs.Entries.{entries_in_order}
use Rattle.plan_model.specs.Contents.{Contents}
use Rattle.plan_model.specs.Status.{HasStatus}
use Rattle.plan_core.specs.plan_status.proofs.RowKeys.{key_of_row}
use Rattle.plan_reasons.specs.Places.{AreAt, IsAt}
use Rattle.plan_reasons.specs.declared.reasons.Unsatisfied.{Unsatisfied}

-- the first is below the second, where both are keys
abbrev Below : Option OpKey → Option OpKey → Type 0
Below a b = (x y : OpKey) → a ≡ Some x → b ≡ Some y → operation_cmp x y ≡ Less

module _ (P : Contents) (places : List ℕ) (found : List Unsatisfied) (are : AreAt P places found) where
  abbrev nodes : List OpKey
  nodes = keys_of (entries P.operations)

  abbrev its_key : Unsatisfied → Option OpKey
  its_key x = Some x.op

  -- each of them is at one of these indices, and has its status
  pub place_of_found : (x : Unsatisfied) → Contains found x → (i : ℕ) × Contains places i × (slice_get nodes i ≡ Some x.op)
  place_of_found x has =
      let r = from_map (slice_get nodes) places (Some x.op) (subst (λ ks. Contains ks (Some x.op)) (sym are.keys) (in_map its_key found x has)) in (r.0, r.1, r.2)

  pub status_of_found : (x : Unsatisfied) → Contains found x → HasStatus P x.op x.status
  status_of_found x has = All-contains (λ y. HasStatus P y.op y.status) found x are.statuses has

  -- the operation at each of these indices is one of them
  pub found_at_place : (i : ℕ) (o : OpKey) → Contains places i → slice_get nodes i ≡ Some o → (x : Unsatisfied) × Contains found x × (x.op ≡ o)
  found_at_place i o has at =
      let listed = subst (λ ks. Contains ks (slice_get nodes i)) are.keys (in_map (slice_get nodes) places i has) in
      let r = from_map its_key found (slice_get nodes i) listed in
      (r.0, r.1, same_Some r.0.op o (r.2 ∙ at))

  -- where the indices ascend, so do their keys
  pub found_in_order : AllPairs (λ a b. a < b) places → AllPairs (λ x y. operation_cmp x.op y.op ≡ Less) found
  found_in_order up =
      let sorted = entries_in_order operation_cmp P.operations in
      let below : (i j : ℕ) → i < j → Below (slice_get nodes i) (slice_get nodes j) = λ i j lt x y at_i at_j.
      let less = Less-from_sorted operation_cmp nodes i j x sorted lt (slice_get_within nodes j y at_j) in
      ap₂ operation_cmp (sym (get_or_from_slice_get nodes i x x at_i)) (sym (get_or_from_slice_get nodes j y x at_j)) ∙ less in
      let at_places : Differ (λ i j. Below (slice_get nodes i) (slice_get nodes j)) places = differ_weaken (λ i j. i < j) (λ i j. Below (slice_get nodes i) (slice_get nodes j)) places (λ i j in_i in_j. below i j)
      (differ_from_pairs (λ i j. i < j) places up) in
      let at_keys : Differ Below (map its_key found) = subst (Differ Below) are.keys (differ_map (slice_get nodes) Below places at_places) in
      pairs_from_differ (λ x y. operation_cmp x.op y.op ≡ Less) found
      (differ_weaken (λ x y. Below (its_key x) (its_key y)) (λ x y. operation_cmp x.op y.op ≡ Less) found (λ x y in_x in_y h. h x.op y.op refl refl) (differ_unmap its_key Below found at_keys))

-- one index more, and the operation that is there
pub one_more_found : (P : Contents) (places : List ℕ) (found : List Unsatisfied) (i : ℕ) (x : Unsatisfied) → AreAt P places found → IsAt P i x.op → HasStatus P x.op x.status → AreAt P (places ++ i ∷ []) (found ++ x ∷ [])
one_more_found P places found i x are at has =
    let nodes = keys_of (entries P.operations) in
    let here : slice_get nodes i ≡ Some x.op = key_of_row (entries P.operations) i x.op at.0 at.1 in
    record {
      keys =
          map-append (slice_get nodes) places (i ∷ []) ∙ ap (λ ks. ks ++ slice_get nodes i ∷ []) are.keys ∙ ap (λ k. map (λ (y : Unsatisfied). Some y.op) found ++ k ∷ []) here
          ∙ sym (map-append (λ (y : Unsatisfied). Some y.op) found (x ∷ []));
      statuses = All-push (λ y. HasStatus P y.op y.status) found x are.statuses has;
    }
