-- What the graph of a plan that is held says of a pair that is added between the operations at two indices.
use Rattle.std.proofs.Common.{◌≡◌, ◌↔◌, inl, inr, refl, sym, ap, subst, ◌∙◌, arith, ℕ, ◌+◌, ◌<◌, Bool, true, false, cond, List, slice_get, Some}
use Rattle.std.proofs.lemmas.Option.{slice_get_within}
use Rattle.std.specs.FinMap.{entries, keys}
use Rattle.std.specs.FinSet as set
use Rattle.plan_basics.specs.declared.limits.TheConstants.{MOST_PAIRS}
use Rattle.operation_graph.specs.Graphs.{Closes, Digraph, HasEdge}
use Rattle.operation_graph.specs.Paths.{LeadsBy}
use Rattle.plan_basics.specs.Keys.{operation_cmp, operation_cmp_total}
use Rattle.plan_basics.specs.declared.keys.OpKey.{OpKey}
use Rattle.plan_drafts.proofs.KeyPlaces.{one_place}
use Rattle.plan_drafts.proofs.PairEdges.{leads_alike, same_key}
use Rattle.derived_figures.specs.plan_laws.proofs.Closing.{pair_closes_a_path}
use Rattle.derived_figures.specs.plan_laws.proofs.Pairs.{pair_cmp_total}
use Rattle.plan_model.specs.Contents.{Contents, IsInPlan, IsPairOf, Operation, Precedes}
use Rattle.plan_model.specs.Valid.{IsAcyclic, IsValid, IsWithinLimits}
use Rattle.plan_model.proofs.Entries.{entries_in_order}
use Rattle.plan_drafts.specs.PlanGraphs.{IsGraphFor}
use Rattle.derived_figures.specs.plan_status.proofs.LoadedRows.{known_among, row_found}
use Rattle.derived_figures.specs.plan_status.proofs.RowKeys.{key_of_row}
use Rattle.plan_records.specs.Changes.{with_pair}
use Rattle.plan_checks.proofs.ReachedKeys.{as_many}

one_more : (b : Bool) (n : ℕ) → ¬ (b ≡ true) → cond b n (n + 1) ≡ n + 1
one_more true n never = absurd (never refl)
one_more false n never = refl

module _ (P : Contents) (valid : IsValid P) (g : Digraph) (graph : IsGraphFor P g) where
  abbrev nodes : List OpKey
  nodes = keys P.operations

  led_alike : (i j : ℕ) (p o : OpKey) → slice_get nodes i ≡ Some p → slice_get nodes j ≡ Some o → LeadsBy (HasEdge g) i j ↔ LeadsBy (IsPairOf P.pairs) p o
  led_alike = leads_alike nodes P.pairs (HasEdge g) graph.edges (entries_in_order operation_cmp P.operations) (λ p o pair. let ends = valid.pairs p o pair in (known_among P p ends.0, known_among P o ends.1))

  pub node_within : (i : ℕ) (o : OpKey) (op : Operation) → slice_get (entries P.operations) i ≡ Some (o, op) → i < g.nodes
  node_within i o op row = let lt = slice_get_within (entries P.operations) i (o, op) row in omega (arith, lt, as_many P valid g graph)

  module _ (p s : OpKey) (new : ¬ Precedes P p s) where
    pairs_more : set.len (set.insert P.pairs (p, s)) ≡ set.len P.pairs + 1
    pairs_more = set.len-insert pair_cmp_total P.pairs (p, s) ∙ one_more (set.contains P.pairs (p, s)) (set.len P.pairs) new

    pub has_room : set.len P.pairs < MOST_PAIRS → IsWithinLimits (with_pair P p s)
    has_room room =
        let limits = valid.limits in
        record {
          workstations = limits.workstations;
          resources = limits.resources;
          occurrences = limits.occurrences;
          operations = limits.operations;
          pairs = omega (arith, pairs_more, room);
        }

    pub has_no_room : ¬ (set.len P.pairs < MOST_PAIRS) → ¬ IsWithinLimits (with_pair P p s)
    has_no_room full limits = full (let most = limits.pairs in omega (arith, pairs_more, most))

  module _ (i j : ℕ) (p s : OpKey) (a b : Operation) (first : slice_get (entries P.operations) i ≡ Some (p, a)) (second : slice_get (entries P.operations) j ≡ Some (s, b)) where
    first_key : slice_get nodes i ≡ Some p
    first_key = key_of_row (entries P.operations) i p a first

    second_key : slice_get nodes j ≡ Some s
    second_key = key_of_row (entries P.operations) j s b second

    pub both_known : IsInPlan P p × IsInPlan P s
    both_known = ((a, row_found P i p a first, tt), (b, row_found P j s b second, tt))

    -- the edge is there where the pair is
    pub pair_by_edge : HasEdge g i j → Precedes P p s
    pair_by_edge e =
        let is = (graph.edges i j).0 e in
        subst (λ z. IsPairOf P.pairs z s) (same_key nodes i is.0 p is.2 first_key) (subst (IsPairOf P.pairs is.0) (same_key nodes j is.1 s is.3 second_key) is.4)

    pub edge_by_pair : Precedes P p s → HasEdge g i j
    edge_by_pair pair = (graph.edges i j).1 (p, s, first_key, second_key, pair)

    -- a path from the second index to the first is one from the second operation to the first
    pub acyclic_with : ¬ Closes g i j → IsAcyclic (with_pair P p s).pairs
    acyclic_with clear = (pair_closes_a_path P.pairs p s valid.acyclic).1 (
      λ same. clear (inl (one_place operation_cmp_total nodes (entries_in_order operation_cmp P.operations) j i s second_key (first_key ∙ ap Some same))),
      λ back. clear (inr ((led_alike j i s p second_key first_key).1 back)),
    )

    pub returning_with : Closes g i j → ¬ IsAcyclic (with_pair P p s).pairs
    returning_with closes acyclic =
        let ends = (pair_closes_a_path P.pairs p s valid.acyclic).0 acyclic in
        elim closes [
          | inl same ↦ ends.0 (same_key nodes i p s first_key (ap (slice_get nodes) (sym same) ∙ second_key))
          | inr back ↦ ends.1 ((led_alike j i s p second_key first_key).0 back)
        ]
