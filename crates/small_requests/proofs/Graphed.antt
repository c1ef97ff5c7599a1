-- A valid plan has a graph.
use Rattle.std.proofs.Common.{◌≡◌, ◌↔◌, refl, ap, ◌∙◌, arith, ℕ, true, List, [], ◌∷◌, map, length, get_or, Contains, Some, option_map, slice_get}
use Rattle.std.specs.FinMap.{keys}
use Rattle.std.specs.FinSet as set
use Rattle.std.proofs.lemmas.Option.{get_or_from_slice_get, slice_get-map, slice_get_within}
use Rattle.plan_basics.proofs.Members.{place_of}
use Rattle.plan_basics.specs.Keys.{operation_cmp, operation_cmp-IsAntisymmetric, operation_cmp_total}
use Rattle.plan_basics.specs.declared.keys.OpKey.{OpKey}
use Rattle.operation_graph.specs.Graphs.{Digraph, IsEdgeOf, edges_of}
use Rattle.plan_drafts.proofs.EntryRows.{among_keys}
use Rattle.plan_drafts.proofs.KeyPlaces.{in_listed, listed_in, pair_cmp-IsAntisymmetric, pair_cmp_total}
use Rattle.plan_drafts.proofs.Lists.{contains_head, contains_later}
use Rattle.plan_drafts.proofs.PairEdges.{IsPairAt, edge_at}
use Rattle.plan_drafts.specs.PlanGraphs.{AreAtPlaces, IsGraphFor}
use Rattle.plan_model.proofs.Entries.{entries_in_order}
use Rattle.plan_model.proofs.Members.{in_items}
use Rattle.plan_model.specs.Contents.{Contents}
use Rattle.plan_model.specs.Valid.{IsValid}
use Rattle.plan_checks.specs.plan_laws.proofs.Ordered.{pairs_have_rank}

module _ (ks : List OpKey) where
  -- edges at the indices of these pairs' ends
  edges_for : (pairs : List (OpKey × OpKey)) → ((x : OpKey × OpKey) → Contains pairs x → Contains ks x.0 × Contains ks x.1) → (edges : List (ℕ × ℕ)) × AreAtPlaces ks pairs edges
  edges_for [] among = ([], refl)
  edges_for (x ∷ pairs) among =
      let both = among x (contains_head x pairs) in
      let from = place_of ks x.0 both.0 in
      let to = place_of ks x.1 both.1 in
      let rest = edges_for pairs (λ y has. among y (contains_later x pairs y has)) in
      ((from.0, to.0) ∷ rest.0, λ i. (from.1 i, to.1 i) ∷ rest.1 i)

module _ (P : Contents) (valid : IsValid P) where
  abbrev ks : List OpKey
  ks = keys P.operations

  abbrev listed : List (OpKey × OpKey)
  listed = set.items P.pairs

  in_pairs : (x : OpKey × OpKey) → (set.contains P.pairs x ≡ true) ↔ Contains listed x
  in_pairs = in_items pair_cmp_total pair_cmp-IsAntisymmetric P.pairs

  ends_among : (x : OpKey × OpKey) → Contains listed x → Contains ks x.0 × Contains ks x.1
  ends_among x has =
      let both = valid.pairs x.0 x.1 ((in_pairs x).1 has) in
      (among_keys operation_cmp_total operation_cmp-IsAntisymmetric P.operations x.0 both.0, among_keys operation_cmp_total operation_cmp-IsAntisymmetric P.operations x.1 both.1)

  made : (edges : List (ℕ × ℕ)) × AreAtPlaces ks listed edges
  made = edges_for ks listed ends_among

  edge_is : (i j : ℕ) → IsEdgeOf (edges_of made.0) i j ↔ IsPairAt ks P.pairs i j
  edge_is i j =
      let at = edge_at ks listed made.0 made.1 (entries_in_order operation_cmp P.operations) i j in (
        λ e. let h = at.0 e in (h.0, h.1, h.2, h.3, (in_pairs (h.0, h.1)).1 (listed_in pair_cmp_total pair_cmp-IsAntisymmetric listed (h.0, h.1) h.4)),
        λ h. at.1 (h.0, h.1, h.2, h.3, in_listed pair_cmp_total pair_cmp-IsAntisymmetric listed (h.0, h.1) ((in_pairs (h.0, h.1)).0 h.4)),
      )

  pub some_graph : (g : Digraph) × IsGraphFor P g
  some_graph =
      let rank = pairs_have_rank P.pairs valid.acyclic in
      let ranked : (i : ℕ) (o : OpKey) → slice_get ks i ≡ Some o → get_or (map rank.0 ks) i 0 ≡ rank.0 o = λ i o at.
      get_or_from_slice_get (map rank.0 ks) i (rank.0 o) 0 (slice_get-map rank.0 ks i ∙ ap (option_map rank.0) at) in (
        record { nodes = length ks; edges = edges_of made.0; ranks = map rank.0 ks },
        record {
          nodes = refl;
          edges = edge_is;
          graph = record {
            ends = λ i j e. let h = (edge_is i j).0 e in (slice_get_within ks i h.0 h.2, slice_get_within ks j h.1 h.3);
            ranked = λ i j e. let h = (edge_is i j).0 e in omega (arith, ranked i h.0 h.2, ranked j h.1 h.3, rank.1 h.0 h.1 h.4);
          };
        },
      )
