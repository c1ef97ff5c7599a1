-- The starts of nodes that are as they were, in a graph that has changed.
use Rattle.std.proofs.Common.{◌≡◌, ◌⊎◌, inl, inr, sym, ap, subst, ◌∙◌, true≢false, false, arith, ℕ, ◌+◌, ◌<◌, ◌≤◌, zero, suc, List, [], ◌∷◌, length, get_or, slice_get, Some, Contains, ℤ, pos, ◌+ℤ◌, ◌≤ℤ◌}
use Rattle.std.proofs.lemmas.Bool.{cases_eq, cases_lt}
use Rattle.std.proofs.lemmas.Int.{ints}
use Rattle.std.proofs.lemmas.List.{length-replicate}
use Rattle.std.proofs.lemmas.Option.{slice_get_within, slice_get-get_or}
use Rattle.operation_graph.specs.Adjacency.{count_of}
use Rattle.operation_graph.specs.Graphs.{Digraph, HasEdge}
use Rattle.operation_graph.proofs.Counts.{contains_counted, counted_contains}
use Rattle.plan_basics.proofs.Members.{contains_none}
use Rattle.latest_start.specs.declared.Item.{Item}
use Rattle.latest_start.specs.declared.spreading.Spread.{Spread}
use Rattle.latest_start.specs.NodeStarts.{IsLiveBy, IsAsBefore, IsLatestStartOf, OthersAreAsBefore, deadline_by, duration_by}
use Rattle.latest_start.specs.Passes.{IsNextStart}
use Rattle.latest_start.specs.Spread.{AreInHeapOrder, AreSettled, IsBegun, IsConsistent, IsNewSuccessor, IsSpreadTo}
use Rattle.latest_start.proofs.Queueing.{queue_begun, total}
use Rattle.latest_start.proofs.Steps.{least_next, least_one, least_own}

-- whether a number is in a list
member : (n : ℕ) (xs : List ℕ) → Contains xs n ⊎ (¬ Contains xs n)
member n xs = elim (cases_eq (count_of n xs) 0) [
  | inl none ↦ inr (λ has. omega (arith, contains_counted n xs has, none))
  | inr some ↦ inl (counted_contains n xs (omega (arith, some)))
]

-- a live node has an item
live_within : (items : List Item) (b : ℕ) → IsLiveBy items b → b < length items
live_within [] b live = absurd (true≢false (sym live))
live_within (x ∷ items) zero live = omega arith
live_within (x ∷ items) (suc b) live = omega (arith, live_within items b live)

module _ (g : Digraph) (items : List Item) (size : length items ≡ g.nodes) (old starts : List ℤ) (kept : (m : ℕ) → m < length old → slice_get starts m ≡ slice_get old m) (changed : List ℕ) (h : OthersAreAsBefore old g items changed) where
  -- a node without an old start is among the changed ones
  pub new_changed : (n : ℕ) → n < g.nodes → length old ≤ n → Contains changed n
  new_changed n in_g past = elim (member n changed) [
    | inl has ↦ has
    | inr none ↦ absurd (let there = (h.others n in_g none).there in let all = h.were.size in omega (arith, there, all, past))
  ]

  -- the start of a node that had one is right for the old graph
  was_right : (b : ℕ) (w : ℤ) → b < length old → slice_get starts b ≡ Some w → IsLatestStartOf h.graph_before h.items_before b w
  was_right b w lt is = h.were.each b w (sym (kept b lt) ∙ is)

  module _ (n : ℕ) (node : IsAsBefore h.graph_before h.items_before g items n) (none : (b : ℕ) → IsNewSuccessor g old n b → ¬ Contains changed b) where
    -- its live successors had starts
    successor_old : (b : ℕ) → HasEdge g n b → IsLiveBy items b → b < length old
    successor_old b e live = elim (cases_lt b (length old)) [
      | inl lt ↦ lt
      | inr past ↦
          let in_g : b < g.nodes = omega (arith, live_within items b live, size) in
          absurd (none b (e, in_g, past) (new_changed b in_g past))
    ]

    in_old : n < length old
    in_old = let there = node.there in let all = h.were.size in omega (arith, there, all)

    abbrev start : ℤ
    start = get_or old n (pos 0)

    was : slice_get old n ≡ Some start
    was = slice_get-get_or old n (pos 0) in_old

    least : IsLatestStartOf h.graph_before h.items_before n start
    least = h.were.each n start was

    abbrev end : ℤ
    end = start +ℤ pos (duration_by items n)

    next : (v : ℤ) → IsNextStart g items starts n v → end ≤ℤ v
    next v (b, e, live, is) =
        let back = (node.successors b).0 (e, live) in
        let low = least_next (duration_by h.items_before) (deadline_by h.items_before) (HasEdge h.graph_before) (IsLiveBy h.items_before) n b start v back.0 back.1 least (was_right b v (successor_old b e live) is) in
        let same = node.duration in
        omega (arith, ints, low, same)

    one : (end ≡ pos (deadline_by items n)) ⊎ IsNextStart g items starts n end
    one = elim (least_one (duration_by h.items_before) (deadline_by h.items_before) (HasEdge h.graph_before) (IsLiveBy h.items_before) n start least) [
      | inl own ↦ inl (let same = node.duration in let also = node.deadline in omega (arith, ints, own, same, also))
      | inr (b, e, live, is) ↦
          let forth = (node.successors b).1 (e, live) in
          let lt = successor_old b forth.0 forth.1 in
          let w = get_or old b (pos 0) in
          let at : slice_get starts b ≡ Some w = kept b lt ∙ slice_get-get_or old b (pos 0) lt in
          let by = is w (was_right b w lt at) in
          let same = node.duration in
          let end_is : w ≡ end = omega (arith, ints, by, same) in
          inr (b, forth.0, forth.1, at ∙ ap Some end_is)
    ]

    own : end ≤ℤ pos (deadline_by items n)
    own =
        let low = least_own (duration_by h.items_before) (deadline_by h.items_before) (HasEdge h.graph_before) (IsLiveBy h.items_before) n start least in
        let same = node.duration in
        let also = node.deadline in
        omega (arith, ints, low, same, also)

    pub as_before_consistent : IsConsistent g items starts n
    as_before_consistent = (start, kept n in_old ∙ was, (end, record { one = one; own = own; next = next }, omega (arith, ints)))

  -- where the changed ones are to be queued, all are settled
  pub settled_begun : length starts ≡ g.nodes → AreSettled g items old starts [] [] changed
  settled_begun all = record {
    size = all;
    settled = λ n lt. elim (member n changed) [
      | inl has ↦ inl (inr has)
      | inr none ↦ inr (λ still. as_before_consistent n (h.others n lt none) (λ b new has. still b new (inr has)))
    ];
    right = λ n v has. absurd (contains_none (n, v) has);
    complete = λ n v new. elim (cases_lt n (length old)) [
      | inl lt ↦ absurd (new.1 (sym (kept n lt) ∙ new.0))
      | inr past ↦ inr (past, inr (new_changed n (omega (arith, slice_get_within starts n v new.0, all)) past))
    ];
  }

  -- so it is where nothing is queued yet
  pub spread_begun : (m : ℕ) → m ≡ g.nodes → (s : Spread) → IsBegun m old s → s.starts.items ≡ starts → IsSpreadTo g items old s changed (total g.ranks + 1)
  spread_begun m all s b is = record {
    queue = rw (b.queued, b.waiting, b.values) (queue_begun g m changed (length-replicate m false ∙ all) (subst AreInHeapOrder b.waiting b.in_order));
    settled = rw (is, b.waiting, b.values) (settled_begun (ap length (sym is) ∙ b.size ∙ all));
  }
