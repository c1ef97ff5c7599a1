-- Which of some nodes have a predecessor.
use Rattle.std.proofs.Common.{◌⊎◌, inl, inr, sym, subst, ◌∙◌, arith, true≢false, ℕ, zero, suc, ◌<◌, List, Contains, filter}
use Rattle.std.specs.FinSet.{contains}
use Rattle.std.specs.List.Sorted.{IsStrictlySortedBy}
use Rattle.std.specs.Ordering.{nat_cmp}
use Rattle.std.proofs.lemmas.Bool.{cases_Bool, cases_eq}
use Rattle.std.proofs.lemmas.List.Kept.{IsStrictlySortedBy-filter}
use Rattle.operation_graph.proofs.Telling.{Told, if_told, is_told, told_if}
use Rattle.operation_graph.specs.Graphs.{Digraph, HasEdge, IsGraph}
use Rattle.satisfaction.specs.Changes.{HoldFollowers}
use Rattle.ready_list.proofs.Members.{contains_filter, contains_from_filter}

module _ (g : Digraph) (graph : IsGraph g) where
  -- a predecessor below a node
  told_below : (m n : ℕ) → ((p : ℕ) × HasEdge g p n) ⊎ ((p : ℕ) → p < m → ¬ HasEdge g p n)
  told_below zero n = inr (λ p lt edge. omega (arith, lt))
  told_below (suc m) n = elim (cases_Bool (contains g.edges (m, n))) [
    | inl there ↦ inl (m, there)
    | inr absent ↦ elim (told_below m n) [
      | inl some ↦ inl some
      | inr none ↦ inr (λ p lt edge. elim (cases_eq p m) [
        | inl same ↦ true≢false (sym (subst (λ q. HasEdge g q n) same edge) ∙ absent)
        | inr other ↦ none p (omega (arith, lt, other)) edge
      ])
    ]
  ]

  -- whether a node has a predecessor
  pub told_led : (n : ℕ) → Told ((p : ℕ) × HasEdge g p n)
  told_led n = elim (told_below g.nodes n) [ inl some ↦ inl some | inr none ↦ inr (λ some. none some.0 (graph.ends some.0 n some.1).0 some.1) ]

  -- those of these nodes that have one
  abbrev pub led_among : List ℕ → List ℕ
  led_among nodes = filter (λ n. is_told (told_led n)) nodes

  pub led_ascend : (nodes : List ℕ) → IsStrictlySortedBy nat_cmp nodes → IsStrictlySortedBy nat_cmp (led_among nodes)
  led_ascend = IsStrictlySortedBy-filter nat_cmp (λ n. is_told (told_led n))

  pub from_led : (nodes : List ℕ) (n : ℕ) → Contains (led_among nodes) n → Contains nodes n × ((p : ℕ) × HasEdge g p n)
  from_led nodes n has = let r = contains_from_filter (λ j. is_told (told_led j)) nodes n has in (r.0, if_told (told_led n) r.1)

  pub hold_led : (nodes : List ℕ) → HoldFollowers g nodes (led_among nodes)
  hold_led nodes n p has edge = contains_filter (λ j. is_told (told_led j)) nodes n (told_if (told_led n) (p, edge)) has
