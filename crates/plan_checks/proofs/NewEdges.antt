-- One more pair of a plan is one more edge of its graph.
use Rattle.std.proofs.Common.{◌≡◌, ◌⊎◌, inl, inr, sym, ap, subst, ◌∙◌, ℕ, List, slice_get, Some}
use Rattle.std.proofs.lemmas.Bool.{or_cases, or_left, or_right}
use Rattle.std.specs.Cmp.{tied_itself}
use Rattle.std.specs.FinMap.{entries, keys}
use Rattle.std.specs.FinSet as set
use Rattle.std.specs.Ordering.{eq_by_cmp, is_eq}
use Rattle.operation_graph.proofs.EdgeSets.{edge_added, edge_cases, edge_stays}
use Rattle.operation_graph.specs.Graphs.{Digraph, Edges, HasEdge, IsEdgeMore, IsEdgeOf, IsGraph}
use Rattle.plan_basics.specs.Keys.{operation_cmp, operation_cmp_total}
use Rattle.plan_basics.specs.declared.keys.OpKey.{OpKey}
use Rattle.derived_figures.specs.plan_laws.proofs.Pairs.{pair_cmp_total, pair_same}
use Rattle.derived_figures.specs.plan_status.proofs.RowKeys.{key_of_row}
use Rattle.plan_model.proofs.Entries.{entries_in_order}
use Rattle.plan_model.specs.Contents.{Contents, Operation, Precedes, pair_cmp}
use Rattle.plan_records.specs.Changes.{with_pair}
use Rattle.plan_drafts.proofs.KeyPlaces.{one_place}
use Rattle.plan_drafts.specs.PlanGraphs.{IsGraphFor}

-- ---- pairs

module _ (P : Contents) (p s : OpKey) where
  -- each pair is the new one, or was there
  pair_is : (a b : OpKey) → Precedes (with_pair P p s) a b → ((a ≡ p) × (b ≡ s)) ⊎ Precedes P a b
  pair_is a b h = elim (or_cases (eq_by_cmp pair_cmp (a, b) (p, s)) (set.contains P.pairs (a, b)) (sym (set.contains-insert pair_cmp_total P.pairs (p, s) (a, b)) ∙ h)) [
    | inl e ↦ inl (pair_same a b p s e)
    | inr old ↦ inr old
  ]

  pair_stays : (a b : OpKey) → Precedes P a b → Precedes (with_pair P p s) a b
  pair_stays a b h = set.contains-insert pair_cmp_total P.pairs (p, s) (a, b) ∙ or_right (eq_by_cmp pair_cmp (a, b) (p, s)) (set.contains P.pairs (a, b)) h

  pair_there : Precedes (with_pair P p s) p s
  pair_there = set.contains-insert pair_cmp_total P.pairs (p, s) (p, s) ∙ or_left (eq_by_cmp pair_cmp (p, s) (p, s)) (set.contains P.pairs (p, s)) (ap is_eq (tied_itself pair_cmp_total (p, s)))

-- ---- edges

module _ (P : Contents) (p s : OpKey) (i j : ℕ) (a b : Operation) (first : slice_get (entries P.operations) i ≡ Some (p, a)) (second : slice_get (entries P.operations) j ≡ Some (s, b)) (g h : Digraph) (graph : IsGraphFor P g) (more : IsEdgeMore g i j h) where
  abbrev nodes : List OpKey
  nodes = keys P.operations

  abbrev IsPairAt : Contents → ℕ → ℕ → Type 0
  IsPairAt R x y = (q : OpKey) × (o : OpKey) × (slice_get nodes x ≡ Some q) × (slice_get nodes y ≡ Some o) × Precedes R q o

  first_key : slice_get nodes i ≡ Some p
  first_key = key_of_row (entries P.operations) i p a first

  second_key : slice_get nodes j ≡ Some s
  second_key = key_of_row (entries P.operations) j s b second

  forth : (x y : ℕ) → HasEdge h x y → IsPairAt (with_pair P p s) x y
  forth x y e = elim (edge_cases g.edges (i, j) x y (subst (λ (edges : Edges). IsEdgeOf edges x y) more.1 e)) [
    | inl same ↦ (p, s, ap (slice_get nodes) (sym (ap (λ (z : ℕ × ℕ). z.0) same)) ∙ first_key, ap (slice_get nodes) (sym (ap (λ (z : ℕ × ℕ). z.1) same)) ∙ second_key, pair_there P p s)
    | inr old ↦ let ends = (graph.edges x y).0 old in (ends.0, ends.1, ends.2, ends.3, pair_stays P p s ends.0 ends.1 ends.4)
  ]

  at_one : (x i : ℕ) (q p : OpKey) → slice_get nodes x ≡ Some q → slice_get nodes i ≡ Some p → q ≡ p → i ≡ x
  at_one x i q p at_x at_i same = one_place operation_cmp_total nodes (entries_in_order operation_cmp P.operations) i x p at_i (at_x ∙ ap Some same)

  back : (x y : ℕ) → IsPairAt (with_pair P p s) x y → HasEdge h x y
  back x y (q, o, at_q, at_o, pair) = subst (λ (edges : Edges). IsEdgeOf edges x y) (sym more.1) (elim (pair_is P p s q o pair) [
    | inl both ↦
        subst (λ x. IsEdgeOf (set.insert g.edges (i, j)) x y) (at_one x i q p at_q first_key both.0)
        (subst (λ y. IsEdgeOf (set.insert g.edges (i, j)) i y) (at_one y j o s at_o second_key both.1) (edge_added g.edges (i, j)))
    | inr old ↦ edge_stays g.edges (i, j) x y ((graph.edges x y).1 (q, o, at_q, at_o, old))
  ])

  -- the graph with an edge between their indices is that of the plan with the pair
  pub pair_is_edge : IsGraph h → IsGraphFor (with_pair P p s) h
  pair_is_edge is = record { nodes = more.0 ∙ graph.nodes; edges = λ x y. (forth x y, back x y); graph = is }
