-- How nodes settle: a node's start is computed anew, and its predecessors are queued where it changed.
use Rattle.std.proofs.Common.{◌≡◌, ◌≢◌, ◌⊎◌, inl, inr, sym, subst, ◌∙◌, true≢false, arith, ℕ, zero, suc, ◌+◌, ◌<◌, ◌≤◌, Bool, true, false, cond, List, [], ◌∷◌, ◌++◌, length, get_or, set, slice_get, Some, Contains, length-set, ℤ, pos}
use Rattle.std.proofs.lemmas.Bool.{cases_eq, cases_Bool}
use Rattle.std.proofs.lemmas.List.Elements.{Contains-append_left, Contains-append_right, Contains-append_cases}
use Rattle.std.proofs.lemmas.Option.{slice_get_within, slice_get-get_or}
use Rattle.std.specs.BinaryHeap.{heap_items}
use Rattle.std.specs.FinSet.{contains}
use Rattle.operation_graph.specs.Graphs.{Digraph, HasEdge, IsGraph, AreExactly, rank_of}
use Rattle.operation_graph.proofs.Counts.{different_if_once}
use Rattle.plan_basics.proofs.Members.{contains_cases, contains_head, contains_none}
use Rattle.latest_start.specs.declared.Item.{Item}
use Rattle.latest_start.specs.declared.spreading.Spread.{Spread}
use Rattle.latest_start.specs.NodeStarts.{AreLatestStartsOf, AreNewStarts, IsLatestStartOf, IsNewStart}
use Rattle.latest_start.specs.Passes.{IsLatestEnd, IsStartBy}
use Rattle.latest_start.specs.Spread.{AreConsistent, AreSettled, IsConsistent, IsPut, IsSettled, IsSpread, IsSpreadTo, IsTaken, IsWaiting}
use Rattle.latest_start.proofs.Passing.{start_by_end}
use Rattle.latest_start.proofs.Placed.{at_set, at_other, stands_there}
use Rattle.latest_start.proofs.Queueing.{Entries, Values, queue_kept, queue_listed, not_listed, taken_entry, total, under_total, waiting_cases}

module _ (g : Digraph) (items : List Item) where
  -- ---- consistency

  -- an end goes by what is said of successors alone
  same_end : (starts : List ℤ) (n s : ℕ) (v end : ℤ) → ¬ HasEdge g n s → IsLatestEnd g items starts n end → IsLatestEnd g items (set starts s v) n end
  same_end starts n s v end not h = record {
    one = elim h.one [
      | inl own ↦ inl own
      | inr next ↦ inr (next.0, next.1, next.2, at_other starts s next.0 v (λ e. not (subst (HasEdge g n) e next.1)) ∙ next.3)
    ];
    own = h.own;
    next = λ w next. h.next w (next.0, next.1, next.2, sym (at_other starts s next.0 v (λ e. not (subst (HasEdge g n) e next.1))) ∙ next.3);
  }

  still_consistent : (starts : List ℤ) (n s : ℕ) (v : ℤ) → n ≢ s → ¬ HasEdge g n s → IsConsistent g items starts n → IsConsistent g items (set starts s v) n
  still_consistent starts n s v other not (w, at, (end, is_end, is)) = (w, at_other starts s n v other ∙ at, (end, same_end starts n s v end not is_end, is))

  -- starts that are consistent along an acyclic graph are the latest ones
  pub consistent_latest : IsGraph g → (starts : List ℤ) → length starts ≡ g.nodes → AreConsistent g items starts → AreLatestStartsOf g items starts
  consistent_latest graph starts size all = record {
    size = size;
    each = λ n v at. right (total g.ranks + 1) n v (let lt = slice_get_within starts n v at in omega (arith, lt, size)) (omega arith) at;
  }
    where
      right : (fuel n : ℕ) (v : ℤ) → n < g.nodes → total g.ranks + 1 ≤ rank_of g n + fuel → slice_get starts n ≡ Some v → IsLatestStartOf g items n v
      right zero n v lt far at = absurd (let under = under_total g.ranks n in omega (arith, far, under))
      right (suc fuel) n v lt far at =
          let so = all n lt in
          let there = so.1 in
          let same : so.0 ≡ v = cc in
          subst (IsLatestStartOf g items n) (sym so.2.2 ∙ same) (start_by_end g items starts n so.2.0 graph size so.2.1
          (λ b u e at_b. right fuel b u (graph.ends n b e).1 (let rises = graph.ranked n b e in omega (arith, far, rises)) at_b))

  module _ (old : List ℤ) where
    -- ---- a node is queued

    pub settled_on : (starts : List ℤ) (heap more : Entries) (values : Values) (rest fewer : List ℕ) → ((b : ℕ) → b < g.nodes → IsWaiting g heap rest b → IsWaiting g more fewer b)
        → AreSettled g items old starts heap values rest → AreSettled g items old starts more values fewer
    settled_on starts heap more values rest fewer forth h = record {
      size = h.size;
      settled = λ n lt. elim (h.settled n lt) [
        | inl waits ↦ inl (forth n lt waits)
        | inr so ↦ inr (λ none. so (λ b new waits. none b new (forth b new.1 waits)))
      ];
      right = h.right;
      complete = λ n v is. elim (h.complete n v is) [
        | inl has ↦ inl has
        | inr (new, waits) ↦ inr (new, forth n (let size = h.size in omega (arith, slice_get_within starts n v is.0, size)) waits)
      ];
    }

    -- a start that was put in and listed, with what is still to be queued
    pub put_spread : (s : Spread) (n : ℕ) (v : ℤ) (t : Spread) (rest : List ℕ) (top : ℕ) → IsPut s n v t → IsSpread g items old (set s.starts.items n v) s.queued.items (heap_items s.waiting) (s.values.items ++ (n, v) ∷ []) rest top
        → IsSpreadTo g items old t rest top
    put_spread s n v t rest top put h = rw (put.starts, put.values, put.queued, put.waiting) h

    -- ---- a node is taken from the heap

    module _ (starts : List ℤ) (queued : List Bool) (heap left : Entries) (values : Values) (top r n : ℕ) (t : IsTaken heap r n left) (h : IsSpread g items old starts queued heap values [] top) (v : ℤ) (is : IsStartBy g items starts n v) where
      in_g : n < g.nodes
      in_g = (taken_entry g queued heap left values top r n t h.queue).0

      in_starts : n < length starts
      in_starts = let size = h.settled.size in omega (arith, in_g, size)

      gone : (rest : List ℕ) (b : ℕ) → IsWaiting g heap [] b → (b ≡ n) ⊎ IsWaiting g left rest b
      gone = waiting_cases g queued heap left values top r n t h.queue

      unlisted : (w : ℤ) → ¬ Contains values (n, w)
      unlisted = not_listed g queued heap left values top r n t h.queue

      -- its start is the old one, which stands there
      module _ (as_before : slice_get old n ≡ Some v) where
        in_old : n < length old
        in_old = slice_get_within old n v as_before

        stands : slice_get starts n ≡ Some v
        stands =
            let w = get_or starts n (pos 0) in
            let at : slice_get starts n ≡ Some w = slice_get-get_or starts n (pos 0) in_starts in
            elim (stands_there old n w) [
              | inl same ↦ cc
              | inr other ↦ elim (h.settled.complete n w (at, other)) [
                | inl has ↦ absurd (unlisted w has)
                | inr (new, waits) ↦ absurd (omega (arith, new, in_old))
              ]
            ]

        kept : AreSettled g items old starts left values []
        kept = record {
          size = h.settled.size;
          settled = λ m lt. elim (cases_eq m n) [
            | inl same ↦ inr (λ none. subst (IsConsistent g items starts) (sym same) (v, stands, is))
            | inr other ↦ elim (h.settled.settled m lt) [
              | inl waits ↦ elim (gone [] m waits) [ inl same ↦ absurd (other same) | inr still ↦ inl still ]
              | inr so ↦ inr (λ none. so (λ b new waits. elim (gone [] b waits) [
                | inl same ↦ let past = new.2 in omega (arith, past, same, in_old)
                | inr still ↦ none b new still
              ]))
            ]
          ];
          right = h.settled.right;
          complete = λ m w new. elim (h.settled.complete m w new) [
            | inl has ↦ inl has
            | inr (past, waits) ↦ elim (gone [] m waits) [
              | inl same ↦ absurd (omega (arith, past, same, in_old))
              | inr still ↦ inr (past, still)
            ]
          ];
        }

        pub taken_same : IsSpread g items old starts queued left values [] r
        taken_same = record { queue = queue_kept g queued heap left values top r n t h.queue; settled = kept }

      -- it is another, or the node is new: its predecessors are to be queued
      module _ (graph : IsGraph g) (changes : slice_get old n ≢ Some v) (preds : List ℕ) (exact : AreExactly (λ p. HasEdge g p n) preds) where
        settled_now : (m : ℕ) → m < g.nodes → IsSettled g items old (set starts n v) left preds m
        settled_now m lt = elim (cases_eq m n) [
          | inl same ↦ inr (λ none. subst (IsConsistent g items (set starts n v)) (sym same)
              (v, at_set starts n v in_starts, (is.0, same_end starts n n v is.0 (λ e. let rises = graph.ranked n n e in omega (arith, rises)) is.1, is.2)))
          | inr other ↦ elim (cases_Bool (contains g.edges (m, n))) [
            | inl edge ↦ inl (inr ((exact.1 m).1 edge))
            | inr no_edge ↦ elim (h.settled.settled m lt) [
              | inl waits ↦ elim (gone preds m waits) [ inl same ↦ absurd (other same) | inr still ↦ inl still ]
              | inr so ↦ inr (λ none. still_consistent starts m n v other (λ e. true≢false (sym e ∙ no_edge)) (so (λ b new waits. elim (gone preds b waits) [
                | inl same ↦ true≢false (sym (subst (HasEdge g m) same new.0) ∙ no_edge)
                | inr still ↦ none b new still
              ])))
            ]
          ]
        ]

        right_now : (m : ℕ) (w : ℤ) → Contains (values ++ (n, v) ∷ []) (m, w) → IsNewStart old (set starts n v) m w
        right_now m w has = elim (Contains-append_cases values ((n, v) ∷ []) (m, w) has) [
          | inl before ↦
              let r = h.settled.right m w before in
              let other : m ≢ n = λ e. unlisted w (subst (λ k. Contains values (k, w)) e before) in
              (at_other starts n m v other ∙ r.0, r.1)
          | inr here ↦ elim (contains_cases (n, v) [] (m, w) here) [
            | inl e ↦ subst (λ (p : ℕ × ℤ). IsNewStart old (set starts n v) p.0 p.1) e (at_set starts n v in_starts, changes)
            | inr none ↦ absurd (contains_none (m, w) none)
          ]
        ]

        complete_now : (m : ℕ) (w : ℤ) → IsNewStart old (set starts n v) m w → Contains (values ++ (n, v) ∷ []) (m, w) ⊎ ((length old ≤ m) × IsWaiting g left preds m)
        complete_now m w new = elim (cases_eq m n) [
          | inl e ↦
              let at : slice_get (set starts n v) n ≡ Some w = subst (λ k. slice_get (set starts n v) k ≡ Some w) e new.0 in
              let put = at_set starts n v in_starts in
              let same : v ≡ w = cc in
              let pair : ◌≡◌ {A = ℕ × ℤ} (n, v) (m, w) = cc in
              inl (Contains-append_right values ((n, v) ∷ []) (m, w) (subst (Contains ((n, v) ∷ [])) pair (contains_head (n, v) [])))
          | inr other ↦ elim (h.settled.complete m w (sym (at_other starts n m v other) ∙ new.0, new.1)) [
            | inl has ↦ inl (Contains-append_left values ((n, v) ∷ []) (m, w) has)
            | inr (past, waits) ↦ elim (gone preds m waits) [ inl same ↦ absurd (other same) | inr still ↦ inr (past, still) ]
          ]
        ]

        pub taken_changed : IsSpread g items old (set starts n v) queued left (values ++ (n, v) ∷ []) preds r
        taken_changed = record {
          queue = queue_listed g queued heap left values top r n t h.queue v preds (λ p has. graph.ranked p n ((exact.1 p).0 has));
          settled = record {
            size = length-set starts n v ∙ h.settled.size;
            settled = settled_now;
            right = right_now;
            complete = complete_now;
          };
        }

    -- ---- nothing waits any more

    module _ (starts : List ℤ) (queued : List Bool) (values : Values) (top : ℕ) (h : IsSpread g items old starts queued [] values [] top) where
      nothing : (b : ℕ) → ¬ IsWaiting g [] [] b
      nothing b (inl has) = contains_none _ has
      nothing b (inr has) = contains_none _ has

      pub all_consistent : AreConsistent g items starts
      all_consistent n lt = elim (h.settled.settled n lt) [
        | inl waits ↦ absurd (nothing n waits)
        | inr so ↦ so (λ b new. nothing b)
      ]

      pub all_listed : length old ≤ g.nodes → AreNewStarts old starts values
      all_listed size = record {
        size = let whole = h.settled.size in omega (arith, size, whole);
        listed = λ n v. (h.settled.right n v, λ new. elim (h.settled.complete n v new) [ inl has ↦ has | inr (past, waits) ↦ absurd (nothing n waits) ]);
        once = different_if_once _ (λ n. let most = h.queue.once n in let one = at_most (get_or queued n false) in omega (arith, most, one));
      }
        where
          at_most : (b : Bool) → cond {A = ℕ} b 1 0 ≤ 1
          at_most b = elim b as (λ c. cond {A = ℕ} c 1 0 ≤ 1) [ true ↦ omega arith | false ↦ omega arith ]
