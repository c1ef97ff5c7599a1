-- Edges between the indices of keys, as pairs lead from key to key.
use Rattle.std.proofs.Common.{◌≡◌, ◌↔◌, sym, ap, subst, ◌∙◌, arith, ℕ, ◌<◌, List, length, get_or, slice_get, Option, Some, None, All, Contains}
use Rattle.std.specs.FinSet.{from_list}
use Rattle.std.specs.List.Sorted.{IsStrictlySortedBy}
use Rattle.std.proofs.lemmas.List.{get_or-map, length-map}
use Rattle.std.proofs.lemmas.List.Elements.{All-contains, All-contains_itself}
use Rattle.std.proofs.lemmas.Option.{slice_get_within}
use Rattle.plan_model.specs.operation_graph.specs.Graphs.{AreDifferent, Digraph, HasEdge, IsBuiltOf, IsEdgeOf, edges_of}
use Rattle.plan_model.specs.operation_graph.specs.Paths.{IsAcyclicBy, LeadsBy, by_edge, by_more}
use Rattle.plan_model.specs.operation_graph.proofs.EdgeSets.{edge_listed, listed_edge}
use Rattle.plan_basics.proofs.Members.{all_by_members, at_place, contains_mapped, mapped_contains, place_of}
use Rattle.plan_basics.specs.Keys.{operation_cmp, operation_cmp_total}
use Rattle.plan_basics.specs.declared.keys.OpKey.{OpKey}
use Rattle.plan_model.specs.Contents.{Pairs, IsPairOf, pair_cmp}
use Rattle.plan_model.specs.Valid.{IsAcyclic}
use Rattle.plan_drafts.specs.PlanGraphs.{IsGraphOf, AreAmong, JoinsAmong, AreAtPlaces, both_ends, keys_at}
use Rattle.plan_drafts.proofs.KeyPlaces.{different_in_order, one_place, listed_in, in_listed, pair_cmp_total, pair_cmp-IsAntisymmetric}

abbrev Pair : Type 0
Pair = OpKey × OpKey

abbrev Edge : Type 0
Edge = ℕ × ℕ

-- one key is at an index
pub same_key : (keys : List OpKey) (i : ℕ) (p o : OpKey) → slice_get keys i ≡ Some p → slice_get keys i ≡ Some o → p ≡ o
same_key keys i p o at_p at_o = cc

-- a pair leads from the key at i to that at j
abbrev pub IsPairAt : List OpKey → Pairs → ℕ → ℕ → Type 0
IsPairAt keys pairs i j = (p : OpKey) × (o : OpKey) × (slice_get keys i ≡ Some p) × (slice_get keys j ≡ Some o) × IsPairOf pairs p o

-- the ends of a list of pairs are among the keys, and so are those of the set that it makes
pub joins_among : (keys : List OpKey) (pairs : List Pair) → AreAmong keys pairs → JoinsAmong keys (from_list pairs)
joins_among keys pairs among p o pair = All-contains (λ (x : Pair). Contains keys x.0 × Contains keys x.1) pairs (p, o) among (listed_in pair_cmp_total pair_cmp-IsAntisymmetric pairs (p, o) pair)

module _ (keys : List OpKey) (pairs : List Pair) (edges : List Edge) (at_places : AreAtPlaces keys pairs edges) where
  pair_of_edge : (e : Edge) → Contains edges e → (x : Pair) × Contains pairs x × (slice_get keys e.0 ≡ Some x.0) × (slice_get keys e.1 ≡ Some x.1)
  pair_of_edge e has =
      let there = subst (λ ys. Contains ys (keys_at keys e)) at_places (contains_mapped (keys_at keys) edges e has) in
      let m = mapped_contains both_ends pairs (keys_at keys e) there in
      (m.0, m.2, ap (λ (z : Option OpKey × Option OpKey). z.0) (sym m.1), ap (λ (z : Option OpKey × Option OpKey). z.1) (sym m.1))

  edge_of_pair : (x : Pair) → Contains pairs x → (e : Edge) × Contains edges e × (slice_get keys e.0 ≡ Some x.0) × (slice_get keys e.1 ≡ Some x.1)
  edge_of_pair x has =
      let there = subst (λ ys. Contains ys (both_ends x)) (sym at_places) (contains_mapped both_ends pairs x has) in
      let m = mapped_contains (keys_at keys) edges (both_ends x) there in
      (m.0, m.2, ap (λ (z : Option OpKey × Option OpKey). z.0) m.1, ap (λ (z : Option OpKey × Option OpKey). z.1) m.1)

  pub edges_within : All (λ (e : Edge). (e.0 < length keys) × (e.1 < length keys)) edges
  edges_within k d lt =
      let x = pair_of_edge (get_or edges k d) (All-contains_itself edges k d lt) in
      (slice_get_within keys (get_or edges k d).0 x.0.0 x.2, slice_get_within keys (get_or edges k d).1 x.0.1 x.3)

  -- so that both ends of each pair are among the keys
  pub ends_at_places : AreAmong keys pairs
  ends_at_places = all_by_members (λ (x : Pair). Contains keys x.0 × Contains keys x.1) pairs (λ x has. let e = edge_of_pair x has in (at_place keys e.0.0 x.0 e.2, at_place keys e.0.1 x.1 e.3))

  module _ (sorted : IsStrictlySortedBy operation_cmp keys) where
    pub edge_at : (i j : ℕ) → IsEdgeOf (edges_of edges) i j ↔ IsPairAt keys (from_list pairs) i j
    edge_at i j = (to, back)
      where
        to : IsEdgeOf (edges_of edges) i j → IsPairAt keys (from_list pairs) i j
        to e = let x = pair_of_edge (i, j) (edge_listed edges i j e) in (x.0.0, x.0.1, x.2, x.3, in_listed pair_cmp_total pair_cmp-IsAntisymmetric pairs x.0 x.1)

        back : IsPairAt keys (from_list pairs) i j → IsEdgeOf (edges_of edges) i j
        back (p, o, at_p, at_o, pair) =
            let e = edge_of_pair (p, o) (listed_in pair_cmp_total pair_cmp-IsAntisymmetric pairs (p, o) pair) in
            let first = one_place operation_cmp_total keys sorted e.0.0 i p e.2 at_p in
            let second = one_place operation_cmp_total keys sorted e.0.1 j o e.3 at_o in
            listed_edge edges i j (subst (λ a. Contains edges (a, j)) first (subst (λ b. Contains edges (e.0.0, b)) second e.1))

  pub edges_differ : AreDifferent pairs → AreDifferent edges
  edges_differ different i j d lt within same =
      let x = (pair_of_edge (get_or edges j d) (All-contains_itself edges j d within)).0 in
      let size : length edges ≡ length pairs = sym (length-map edges (keys_at keys)) ∙ ap length at_places ∙ length-map pairs both_ends in
      let j_in : j < length pairs = omega (arith, within, size) in
      let i_in : i < length pairs = omega (arith, lt, j_in) in
      different i j x lt j_in (both (get_or pairs i x) (get_or pairs j x) (sym (at i x i_in) ∙ ap (keys_at keys) same ∙ at j x j_in))
    where
      both : (x y : Pair) → both_ends x ≡ both_ends y → x ≡ y
      both x y e =
          let first : Some x.0 ≡ Some y.0 = ap (λ z. z.0) e in
          let second : Some x.1 ≡ Some y.1 = ap (λ z. z.1) e in
          let p : x.0 ≡ y.0 = cc in
          let q : x.1 ≡ y.1 = cc in
          λ k. (p k, q k)

      at : (k : ℕ) (x : Pair) → k < length pairs → keys_at keys (get_or edges k d) ≡ both_ends (get_or pairs k x)
      at k x lt =
          let size : length edges ≡ length pairs = sym (length-map edges (keys_at keys)) ∙ ap length at_places ∙ length-map pairs both_ends in
          let none : Option OpKey × Option OpKey = (None, None) in
          sym (get_or-map (keys_at keys) edges k d none (omega (arith, lt, size)))
          ∙ ap (λ ys. get_or ys k none) at_places ∙ get_or-map both_ends pairs k x none lt

-- ---- paths

module _ (keys : List OpKey) (pairs : Pairs) (edge : ℕ → ℕ → Type 0) (edge_at : (i j : ℕ) → edge i j ↔ IsPairAt keys pairs i j) where
  leads_by_keys : {i j : ℕ} → LeadsBy edge i j → (p : OpKey) × (o : OpKey) × (slice_get keys i ≡ Some p) × (slice_get keys j ≡ Some o) × LeadsBy (IsPairOf pairs) p o
  leads_by_keys {i} {j} (by_edge e) = let h = (edge_at i j).0 e in (h.0, h.1, h.2, h.3, by_edge h.4)
  leads_by_keys {i} (by_more {b = b} e rest) =
      let h = (edge_at i b).0 e in
      let r = leads_by_keys rest in
      (h.0, r.1, h.2, r.3, by_more (subst (IsPairOf pairs h.0) (same_key keys b h.1 r.0 h.3 r.2) h.4) r.4)

  pub acyclic_by_keys : IsAcyclic pairs → IsAcyclicBy edge
  acyclic_by_keys acyclic i path =
      let r = leads_by_keys path in
      acyclic r.0 (subst (LeadsBy (IsPairOf pairs) r.0) (same_key keys i r.1 r.0 r.3 r.2) r.4)

  module _ (sorted : IsStrictlySortedBy operation_cmp keys) (ends : JoinsAmong keys pairs) where
    leads_by_places : {p o : OpKey} → LeadsBy (IsPairOf pairs) p o → (i : ℕ) × (j : ℕ) × (slice_get keys i ≡ Some p) × (slice_get keys j ≡ Some o) × LeadsBy edge i j
    leads_by_places {p} {o} (by_edge e) =
        let a = place_of keys p (ends p o e).0 in
        let b = place_of keys o (ends p o e).1 in
        (a.0, b.0, a.1, b.1, by_edge ((edge_at a.0 b.0).1 (p, o, a.1, b.1, e)))
    leads_by_places {p} (by_more {b = q} e rest) =
        let a = place_of keys p (ends p q e).0 in
        let r = leads_by_places rest in
        (a.0, r.1, a.1, r.3, by_more ((edge_at a.0 r.0).1 (p, q, a.1, r.2, e)) r.4)

    pub acyclic_by_places : IsAcyclicBy edge → IsAcyclic pairs
    acyclic_by_places acyclic p path =
        let r = leads_by_places path in
        acyclic r.0 (subst (LeadsBy edge r.0) (sym (one_place operation_cmp_total keys sorted r.0 r.1 p r.2 r.3)) r.4)

    -- a path leads from index to index exactly where one leads from key to key
    pub leads_alike : (i j : ℕ) (p o : OpKey) → slice_get keys i ≡ Some p → slice_get keys j ≡ Some o → LeadsBy edge i j ↔ LeadsBy (IsPairOf pairs) p o
    leads_alike i j p o at_p at_o = (to, back)
      where
        to : LeadsBy edge i j → LeadsBy (IsPairOf pairs) p o
        to path =
            let r = leads_by_keys path in
            subst (λ z. LeadsBy (IsPairOf pairs) z o) (same_key keys i r.0 p r.2 at_p) (subst (LeadsBy (IsPairOf pairs) r.0) (same_key keys j r.1 o r.3 at_o) r.4)

        back : LeadsBy (IsPairOf pairs) p o → LeadsBy edge i j
        back path =
            let r = leads_by_places path in
            subst (λ z. LeadsBy edge z j) (one_place operation_cmp_total keys sorted r.0 i p r.2 at_p) (subst (LeadsBy edge r.0) (one_place operation_cmp_total keys sorted r.1 j o r.3 at_o) r.4)

-- ---- the graph that is built

module _ (keys : List OpKey) (pairs : List Pair) (edges : List Edge) (at_places : AreAtPlaces keys pairs edges) (sorted : IsStrictlySortedBy operation_cmp keys) where
  pub never_twice : IsStrictlySortedBy pair_cmp pairs → AreDifferent edges
  never_twice in_order = edges_differ keys pairs edges at_places (different_in_order pair_cmp_total pairs in_order)

  pub some_path_returns : ¬ IsAcyclicBy (IsEdgeOf (edges_of edges)) → ¬ IsAcyclic (from_list pairs)
  some_path_returns returns acyclic = returns (acyclic_by_keys keys (from_list pairs) (IsEdgeOf (edges_of edges)) (edge_at keys pairs edges at_places sorted) acyclic)

  module _ (n : ℕ) (g : Digraph) (size : n ≡ length keys) (built : IsBuiltOf n edges g) where
    pub graph_built : IsGraphOf keys (from_list pairs) g
    graph_built = record {
      nodes = built.nodes ∙ size;
      edges = subst (λ es. (i j : ℕ) → IsEdgeOf es i j ↔ IsPairAt keys (from_list pairs) i j) (sym built.edges) (edge_at keys pairs edges at_places sorted);
      graph = built.graph;
    }

    pub no_path_returns : AreAmong keys pairs → IsAcyclic (from_list pairs)
    no_path_returns among = acyclic_by_places keys (from_list pairs) (HasEdge g) graph_built.edges sorted (joins_among keys pairs among) built.acyclic
