-- Lists of predecessors show the edges of a graph, backwards; a walk along them is one upstream.
use Rattle.std.proofs.Common.{◌≡◌, inl, inr, sym, ap, subst, ◌∙◌, arith, ℕ, ◌<◌, ◌≤◌, Bool, true, false, cond, List, [], ◌∷◌, length, get_or, Contains}
use Rattle.std.specs.List.{filter, range_with_len}
use Rattle.std.specs.FinSet.{contains}
use Rattle.std.proofs.lemmas.List.FromFn.{get_or-map-range_with_len, get_or-range_with_len, length-map-range_with_len, length-range_with_len}
use Rattle.std.proofs.lemmas.List.Elements.{All-contains, filter_passes}
use Rattle.operation_graph.specs.Adjacency.{Rows, row}
use Rattle.operation_graph.specs.Graphs.{AreExactly, Digraph, HasEdge, IsGraph, IsSet}
use Rattle.operation_graph.specs.Paths.{IsPathBy, end_of}
use Rattle.operation_graph.specs.Walks.{AreNodes, IsSuccessor, IsWalk}
use Rattle.operation_graph.proofs.Counts.{contains_counted, row_there}
use Rattle.operation_graph.proofs.Reaching.{IsVisit, found_exactly, reaches_along}
use Rattle.plan_basics.proofs.Members.{contains_cases, contains_head, contains_later, contains_none}
use Rattle.graph_paths.specs.Upstream.{IsUpstream, LeadsBack}
use Rattle.graph_paths.specs.Walking.{predecessor_rows, predecessors_of}

-- ---- what a filter keeps

module _ {X : Type 0} (p : X → Bool) where
  in_filter : (xs : List X) (x : X) → Contains xs x → p x ≡ true → Contains (filter p xs) x
  in_filter [] x has e = absurd (contains_none x has)
  in_filter (y ∷ xs) x has e = elim (contains_cases y xs x has) [
    | inl same ↦ subst (λ b. Contains (cond b (y ∷ filter p xs) (filter p xs)) x) (sym (ap p same ∙ e)) (subst (Contains (y ∷ filter p xs)) same (contains_head y (filter p xs)))
    | inr later ↦ past (p y) (in_filter xs x later e)
  ]
    where
      past : (b : Bool) → Contains (filter p xs) x → Contains (cond b (y ∷ filter p xs) (filter p xs)) x
      past true has = contains_later y (filter p xs) x has
      past false has = has

  of_filter : (xs : List X) (x : X) → Contains (filter p xs) x → Contains xs x
  of_filter [] x has = has
  of_filter (y ∷ xs) x has = past (p y) (λ h. of_filter xs x h) has
    where
      past : (b : Bool) → (Contains (filter p xs) x → Contains xs x) → Contains (cond b (y ∷ filter p xs) (filter p xs)) x → Contains (y ∷ xs) x
      past true rest h = elim (contains_cases y (filter p xs) x h) [ inl same ↦ subst (Contains (y ∷ xs)) same (contains_head y xs) | inr later ↦ contains_later y xs x (rest later) ]
      past false rest h = contains_later y xs x (rest h)

-- ---- numbers up to a bound

number_in : (n k : ℕ) → k < n → Contains (range_with_len 0 n) k
number_in n k lt = (k, omega (arith, lt, length-range_with_len 0 n), get_or-range_with_len 0 n k k lt ∙ omega arith)

number_of : (n k : ℕ) → Contains (range_with_len 0 n) k → k < n
number_of n k (i, lt, e) =
    let within : i < n = omega (arith, lt, length-range_with_len 0 n) in
    omega (arith, within, e, get_or-range_with_len 0 n i k within)

module _ (g : Digraph) where
  abbrev rows : Rows
  rows = predecessor_rows g

  -- there is a list for each node
  pub as_many : length rows ≡ g.nodes
  as_many = length-map-range_with_len (predecessors_of g) 0 g.nodes

  row_at : (n : ℕ) → n < g.nodes → row rows n ≡ predecessors_of g n
  row_at n lt = get_or-map-range_with_len (predecessors_of g) 0 g.nodes n n [] lt (omega arith)

  in_row : (a b : ℕ) → IsSuccessor rows a b → Contains (predecessors_of g a) b
  in_row a b has =
      let there : a < length rows = row_there b a rows (contains_counted b (row rows a) has) in
      subst (λ xs. Contains xs b) (row_at a (omega (arith, there, as_many))) has

  -- what is in a list is a predecessor
  pub back_of_row : (a b : ℕ) → IsSuccessor rows a b → LeadsBack g a b
  back_of_row a b has = All-contains (λ p. contains g.edges (p, a) ≡ true) (predecessors_of g a) b (filter_passes (λ p. contains g.edges (p, a)) (range_with_len 0 g.nodes)) (in_row a b has)

  -- and each is a node
  pub rows_of_nodes : AreNodes rows
  rows_of_nodes a b has = omega (arith, as_many, number_of g.nodes b (of_filter (λ p. contains g.edges (p, a)) (range_with_len 0 g.nodes) b (in_row a b has)))

  module _ (graph : IsGraph g) where
    -- a predecessor is in the list
    pub row_of_back : (a b : ℕ) → LeadsBack g a b → IsSuccessor rows a b
    row_of_back a b edge =
        let ends = graph.ends b a edge in
        subst (λ xs. Contains xs b) (sym (row_at a ends.1)) (in_filter (λ p. contains g.edges (p, a)) (range_with_len 0 g.nodes) b (number_in g.nodes b ends.0) edge)

    -- the predecessors of the node at an index are to be looked at
    pub visit_begun : (flags : List Bool) (from : ℕ) (seen : List Bool) (found : List ℕ) (place node : ℕ) (preds : List ℕ) → IsWalk rows flags from seen found place → place < length found
        → get_or found place 0 ≡ node → AreExactly (λ p. HasEdge g p node) preds → IsVisit rows flags from seen found place preds
    visit_begun flags from seen found place node preds walk lt at exactly = record {
      walk = walk;
      there = lt;
      some = λ b has. subst (λ a. IsSuccessor rows a b) (sym at) (row_of_back node b ((exactly.1 b).0 has));
      others = λ b is l. inr ((exactly.1 b).1 (back_of_row node b (subst (λ a. IsSuccessor rows a b) at is)));
    }

    ends_within : (flags : List Bool) (a : ℕ) (rest : List ℕ) → a < g.nodes → IsPathBy (LeadsBack g) (IsSet flags) a rest → end_of a rest < g.nodes
    ends_within flags a [] lt path = lt
    ends_within flags a (b ∷ rest) lt path = ends_within flags b rest (graph.ends b a path.0).0 path.2

    -- what is upstream of a node is a node
    pub upstream_within : (flags : List Bool) (from n : ℕ) → from < g.nodes → IsUpstream g flags from n → n < g.nodes
    upstream_within flags from n lt r = subst (λ z. z < g.nodes) r.2 (ends_within flags from r.0 lt r.1)

    -- where a walk is through, it has found all that is upstream
    pub upstream_found : (flags : List Bool) (from : ℕ) (seen : List Bool) (found : List ℕ) (place : ℕ) → IsWalk rows flags from seen found place → length found ≤ place
        → AreExactly (IsUpstream g flags from) found
    upstream_found flags from seen found place walk through =
        let exactly = found_exactly rows flags from seen found place walk through in (
          exactly.0,
          λ n. (
            λ has. reaches_along (IsSuccessor rows) (LeadsBack g) (IsSet flags) back_of_row from n ((exactly.1 n).0 has),
            λ path. (exactly.1 n).1 (reaches_along (LeadsBack g) (IsSuccessor rows) (IsSet flags) row_of_back from n path),
          ),
        )
