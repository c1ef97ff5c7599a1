-- The first edge with which a path returns, and that a path leads from its end to its start.
use Rattle.std.proofs.Common.{◌≡◌, ◌↔◌, inl, inr, sym, ap, subst, ◌∙◌, ℕ, ◌+◌, ◌<◌, List, [], ◌∷◌, ◌++◌, length, take, get_or, Contains}
use Rattle.std.specs.FinSet.{insert}
use Rattle.std.proofs.lemmas.List.{take_more, nil_from_length}
use Rattle.std.proofs.lemmas.List.Elements.{All-take, All-contains, Contains-append_left, Contains-push, Contains-push_cases}
use Rattle.plan_basics.proofs.Members.{all_by_members, contains_none}
use Rattle.operation_graph.specs.Paths.{IsAcyclicBy, LeadsBy, by_edge, by_more}
use Rattle.operation_graph.specs.Graphs.{Digraph, HasEdge, IsEdgeOf, IsBuiltOf, IsFaultIn, edges_of, Closes}
use Rattle.operation_graph.specs.declared.EdgeFault.TheVariants.{Cycle}
use Rattle.operation_graph.proofs.Closing.{same_edges, closes_one}
use Rattle.operation_graph.proofs.EdgeSets.{edge_cases, edge_stays, edge_added, edge_listed, listed_edge}
use Rattle.graph_paths.specs.Returns.{NoneReturns, IsFirstToReturn}
use Rattle.graph_paths.specs.Reached.{IsGraphOf}

-- lists of the same edges
pub same_edges_of : (xs ys : List (ℕ × ℕ)) → ((e : ℕ × ℕ) → Contains xs e ↔ Contains ys e) → edges_of xs ≡ edges_of ys
same_edges_of xs ys same = same_edges (edges_of xs) (edges_of ys)
    (λ a b e. listed_edge ys a b ((same (a, b)).0 (edge_listed xs a b e)))
    (λ a b e. listed_edge xs a b ((same (a, b)).1 (edge_listed ys a b e)))

module _ (nodes : ℕ) (built edges : List (ℕ × ℕ)) (same : edges_of built ≡ edges_of edges) where
  -- a graph that is built of a list with the same edges
  pub graph_is_of : (g : Digraph) → IsBuiltOf nodes built g → IsGraphOf nodes edges g
  graph_is_of g is = record {
    nodes = is.nodes;
    edges = is.edges ∙ same;
    graph = is.graph;
    none = subst (λ es. IsAcyclicBy (IsEdgeOf es)) (is.edges ∙ same) is.acyclic;
  }

  -- where none can be built a path returns
  pub some_returns : IsFaultIn built Cycle → ¬ NoneReturns edges
  some_returns fault none = fault (subst (λ es. IsAcyclicBy (IsEdgeOf es)) (sym same) none)

-- no edge, no path
pub none_of_none : (edges : List (ℕ × ℕ)) → length edges ≡ 0 → NoneReturns edges
none_of_none edges none a path = first path
  where
    no_edge : (a b : ℕ) → ¬ IsEdgeOf (edges_of edges) a b
    no_edge a b e = contains_none (a, b) (subst (λ es. Contains es (a, b)) (nil_from_length edges none) (edge_listed edges a b e))

    first : {a b : ℕ} → LeadsBy (IsEdgeOf (edges_of edges)) a b → ⊥
    first {a} {b} (by_edge e) = no_edge a b e
    first {a} {b = c} (by_more {b = b} e rest) = no_edge a b e

-- what is among the first is among all
pub among_first : {X : Type 0} (n : ℕ) (xs : List X) (x : X) → Contains (take n xs) x → Contains xs x
among_first n xs x has = All-contains (Contains xs) (take n xs) x (All-take (Contains xs) n xs (all_by_members (Contains xs) xs (λ y h. h))) has

module _ (edges : List (ℕ × ℕ)) (place a b : ℕ) (lt : place < length edges) (at : (a, b) ≡ get_or edges place (a, b)) where
  abbrev Before : List (ℕ × ℕ)
  Before = take place edges

  one_more : take (place + 1) edges ≡ Before ++ (a, b) ∷ []
  one_more = take_more edges place (a, b) lt ∙ ap (λ e. Before ++ e ∷ []) (sym at)

  edges_more : edges_of (take (place + 1) edges) ≡ insert (edges_of Before) (a, b)
  edges_more = ap edges_of one_more ∙ same_edges (edges_of (Before ++ (a, b) ∷ [])) (insert (edges_of Before) (a, b))
      (λ p s e. elim (Contains-push_cases Before (a, b) (p, s) (edge_listed (Before ++ (a, b) ∷ []) p s e)) [
        | inl old ↦ edge_stays (edges_of Before) (a, b) p s (listed_edge Before p s old)
        | inr is ↦ subst (λ (x : ℕ × ℕ). IsEdgeOf (insert (edges_of Before) (a, b)) x.0 x.1) is (edge_added (edges_of Before) (a, b))
      ])
      (λ p s e. listed_edge (Before ++ (a, b) ∷ []) p s (elim (edge_cases (edges_of Before) (a, b) p s e) [
        | inl is ↦ subst (Contains (Before ++ (a, b) ∷ [])) is (Contains-push Before (a, b))
        | inr old ↦ Contains-append_left Before ((a, b) ∷ []) (p, s) (edge_listed Before p s old)
      ]))

  -- the first edge with which a path returns closes one
  pub first_closes : (nodes : ℕ) (g : Digraph) → IsGraphOf nodes Before g → IsFirstToReturn edges place → Closes g a b
  first_closes nodes g is first = closes_one g.edges a b Before is.edges
      (subst (λ es. IsAcyclicBy (IsEdgeOf es)) (sym is.edges) first.0)
      (λ none. first.1 (subst (λ es. IsAcyclicBy (IsEdgeOf es)) (ap (λ es. insert es (a, b)) is.edges ∙ sym edges_more) none))

-- an edge of the graph of the first edges is listed
pub edge_among : (nodes : ℕ) (edges : List (ℕ × ℕ)) (place : ℕ) (g : Digraph) → IsGraphOf nodes (take place edges) g → (p s : ℕ) → HasEdge g p s → Contains edges (p, s)
edge_among nodes edges place g is p s e = among_first place edges (p, s) (edge_listed (take place edges) p s (subst (λ es. IsEdgeOf es p s) is.edges e))
