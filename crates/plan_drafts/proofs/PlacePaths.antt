-- Paths over the indices of keys, and over the keys.
use Rattle.std.proofs.Common.{◌≡◌, ◌↔◌, refl, sym, ap, subst, ◌∙◌, arith, ℕ, ℤ, pos, ◌-ℤ◌, ◌≤ℤ◌, List, [], ◌∷◌, slice_get, Some, sum_by}
use Rattle.std.specs.List.Sorted.{IsStrictlySortedBy}
use Rattle.std.proofs.lemmas.List.Sums.{sum_by-cons}
use Rattle.plan_model.specs.operation_graph.specs.Graphs.{Digraph, HasEdge}
use Rattle.plan_model.specs.operation_graph.specs.Paths.{IsPathBy, ReachesBy, end_of}
use Rattle.plan_model.specs.latest_start.specs.LeastStart.{IsLeastStart, start_by}
use Rattle.plan_basics.proofs.Members.{place_of}
use Rattle.plan_basics.specs.Keys.{operation_cmp, operation_cmp_total}
use Rattle.plan_basics.specs.declared.keys.OpKey.{OpKey}
use Rattle.plan_model.specs.Contents.{Pairs, IsPairOf}
use Rattle.plan_drafts.specs.PlanGraphs.{CountsAlike, HoldsAlike, IsGraphOf, JoinsAmong, ReachAlike, StandAt}
use Rattle.plan_drafts.proofs.KeyPlaces.{one_place}
use Rattle.plan_drafts.proofs.PairEdges.{same_key}

-- ---- keys that are at indices

module _ (keys : List OpKey) where
  first_stands : (i : ℕ) (p : OpKey) (places : List ℕ) (rest : List OpKey) → StandAt keys (i ∷ places) (p ∷ rest) → slice_get keys i ≡ Some p
  first_stands i p places rest stand = cc

  others_stand : (i : ℕ) (p : OpKey) (places : List ℕ) (rest : List OpKey) → StandAt keys (i ∷ places) (p ∷ rest) → StandAt keys places rest
  others_stand i p places rest stand = cc

  more_stand : (i : ℕ) (p : OpKey) (places : List ℕ) (rest : List OpKey) → slice_get keys i ≡ Some p → StandAt keys places rest → StandAt keys (i ∷ places) (p ∷ rest)
  more_stand i p places rest at stand = λ k. at k ∷ stand k

  -- the last of the keys is at the last of the indices
  pub ends_stand : (i : ℕ) (p : OpKey) (places : List ℕ) (rest : List OpKey) → slice_get keys i ≡ Some p → StandAt keys places rest → slice_get keys (end_of i places) ≡ Some (end_of p rest)
  ends_stand i p [] [] at stand = at
  ends_stand i p [] (o ∷ rest) at stand = absurd cc
  ends_stand i p (j ∷ places) [] at stand = absurd cc
  ends_stand i p (j ∷ places) (o ∷ rest) at stand = ends_stand j o places rest (first_stands j o places rest stand) (others_stand j o places rest stand)

  sums_alike : (f : ℕ → ℕ) (h : OpKey → ℕ) → CountsAlike keys f h → (places : List ℕ) (rest : List OpKey) → StandAt keys places rest → sum_by f places ≡ sum_by h rest
  sums_alike f h alike [] [] stand = refl
  sums_alike f h alike [] (o ∷ rest) stand = absurd cc
  sums_alike f h alike (j ∷ places) [] stand = absurd cc
  sums_alike f h alike (j ∷ places) (o ∷ rest) stand =
      omega (arith, sum_by-cons f j places, sum_by-cons h o rest, alike j o (first_stands j o places rest stand), sums_alike f h alike places rest (others_stand j o places rest stand))

-- ---- paths

-- each path of live members over the indices is one over their keys
abbrev pub PathsHaveKeys : List OpKey → Pairs → Digraph → (ℕ → Type 0) → (OpKey → Type 0) → Type 0
PathsHaveKeys keys pairs g live_at live = (i : ℕ) (p : OpKey) (places : List ℕ) → slice_get keys i ≡ Some p → IsPathBy (HasEdge g) live_at i places
    → (rest : List OpKey) × StandAt keys places rest × IsPathBy (IsPairOf pairs) live p rest

-- and each over the keys is one over their indices
abbrev pub PathsHavePlaces : List OpKey → Pairs → Digraph → (ℕ → Type 0) → (OpKey → Type 0) → Type 0
PathsHavePlaces keys pairs g live_at live = (i : ℕ) (p : OpKey) (rest : List OpKey) → slice_get keys i ≡ Some p → IsPathBy (IsPairOf pairs) live p rest
    → (places : List ℕ) × StandAt keys places rest × IsPathBy (HasEdge g) live_at i places

-- the least start over all paths from an index is that over all paths from its key
abbrev pub LeastStartsAlike : List OpKey → Pairs → Digraph → (ℕ → Type 0) → (OpKey → Type 0) → (ℕ → ℕ) → (OpKey → ℕ) → (ℕ → ℕ) → (OpKey → ℕ) → Type 0
LeastStartsAlike keys pairs g live_at live duration_at duration deadline_at deadline = (i : ℕ) (p : OpKey) (v : ℤ) → slice_get keys i ≡ Some p
    → IsLeastStart (HasEdge g) live_at duration_at deadline_at i v ↔ IsLeastStart (IsPairOf pairs) live duration deadline p v

module _ (keys : List OpKey) (pairs : Pairs) (g : Digraph) (graph : IsGraphOf keys pairs g) (live_at : ℕ → Type 0) (live : OpKey → Type 0) (alike : HoldsAlike keys live_at live) where
  -- each path over the indices is one over their keys
  pub paths_have_keys : PathsHaveKeys keys pairs g live_at live
  paths_have_keys i p [] at path = ([], refl, tt)
  paths_have_keys i p (j ∷ places) at (e, l, path) =
      let h = (graph.edges i j).0 e in
      let r = paths_have_keys j h.1 places h.3 path in
      (h.1 ∷ r.0, more_stand keys j h.1 places r.0 h.3 r.1, (subst (λ z. IsPairOf pairs z h.1) (same_key keys i h.0 p h.2 at) h.4, (alike j h.1 h.3).0 l, r.2))

  module _ (ends : JoinsAmong keys pairs) where
    -- each path over the keys is one over their indices
    pub paths_have_places : PathsHavePlaces keys pairs g live_at live
    paths_have_places i p [] at path = ([], refl, tt)
    paths_have_places i p (o ∷ rest) at (e, l, path) =
        let b = place_of keys o (ends p o e).1 in
        let r = paths_have_places b.0 o rest b.1 path in
        (b.0 ∷ r.0, more_stand keys b.0 o r.0 rest b.1 r.1, ((graph.edges i b.0).1 (p, o, at, b.1, e), (alike b.0 o b.1).1 l, r.2))

    -- what an index reaches is what its key reaches
    pub reach_alike : IsStrictlySortedBy operation_cmp keys → ReachAlike keys pairs g live_at live
    reach_alike sorted i j p o at_p at_o = (to, back)
      where
        to : ReachesBy (HasEdge g) live_at i j → ReachesBy (IsPairOf pairs) live p o
        to (places, path, ends_at) =
            let r = paths_have_keys i p places at_p path in
            let last = ends_stand keys i p places r.0 at_p r.1 in
            (r.0, r.2, same_key keys j (end_of p r.0) o (sym (ap (slice_get keys) ends_at) ∙ last) at_o)

        back : ReachesBy (IsPairOf pairs) live p o → ReachesBy (HasEdge g) live_at i j
        back (rest, path, ends_at) =
            let r = paths_have_places i p rest at_p path in
            let last = ends_stand keys i p r.0 rest at_p r.1 in
            (r.0, r.2, one_place operation_cmp_total keys sorted (end_of i r.0) j o (last ∙ ap Some ends_at) at_o)

    module _ (duration_at : ℕ → ℕ) (duration : OpKey → ℕ) (deadline_at : ℕ → ℕ) (deadline : OpKey → ℕ) (durations : CountsAlike keys duration_at duration) (deadlines : CountsAlike keys deadline_at deadline) where
      start_alike : (i : ℕ) (p : OpKey) (places : List ℕ) (rest : List OpKey) → slice_get keys i ≡ Some p → StandAt keys places rest
          → start_by duration_at deadline_at i places ≡ start_by duration deadline p rest
      start_alike i p places rest at stand =
          let last = deadlines (end_of i places) (end_of p rest) (ends_stand keys i p places rest at stand) in
          let sum = sums_alike keys duration_at duration durations (i ∷ places) (p ∷ rest) (more_stand keys i p places rest at stand) in
          λ k. pos (last k) -ℤ pos (sum k)

      -- the least start at an index is that of its key
      pub least_starts_alike : LeastStartsAlike keys pairs g live_at live duration_at duration deadline_at deadline
      least_starts_alike i p v at = (to, back)
        where
          to : IsLeastStart (HasEdge g) live_at duration_at deadline_at i v → IsLeastStart (IsPairOf pairs) live duration deadline p v
          to h = record {
            of_a_path = let o = h.of_a_path in let r = paths_have_keys i p o.0 at o.1 in (r.0, r.2, o.2 ∙ start_alike i p o.0 r.0 at r.1);
            least = λ rest path. let r = paths_have_places i p rest at path in subst (λ z. v ≤ℤ z) (start_alike i p r.0 rest at r.1) (h.least r.0 r.2);
          }

          back : IsLeastStart (IsPairOf pairs) live duration deadline p v → IsLeastStart (HasEdge g) live_at duration_at deadline_at i v
          back h = record {
            of_a_path = let o = h.of_a_path in let r = paths_have_places i p o.0 at o.1 in (r.0, r.2, o.2 ∙ sym (start_alike i p r.0 o.0 at r.1));
            least = λ places path. let r = paths_have_keys i p places at path in subst (λ z. v ≤ℤ z) (sym (start_alike i p places r.0 at r.1)) (h.least r.0 r.2);
          }
