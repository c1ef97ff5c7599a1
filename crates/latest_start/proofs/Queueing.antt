-- What is queued by rank, and what leaves the heap.
use Rattle.std.proofs.Common.{◌≡◌, ◌⊎◌, inl, inr, refl, sym, ap, subst, ◌∙◌, true≢false, arith, ℕ, zero, suc, ◌+◌, ◌<◌, ◌≤◌, eqb, Bool, true, false, cond, List, [], ◌∷◌, ◌++◌, map, length, get_or, set, replicate, Contains, get_or-set_other, length-set, ℤ}
use Rattle.std.specs.BinaryHeap.{IsUpperBound}
use Rattle.std.specs.Ordering.{nat_cmp, ordering_then}
use Rattle.std.specs.List.Sorted.{IsPermutation}
use Rattle.std.proofs.lemmas.Bool.{cases_eq}
use Rattle.std.proofs.lemmas.List.{map-append}
use Rattle.std.proofs.lemmas.List.Sorted.{Contains-permutation, IsPermutation-map, IsPermutation-sym, first_le_from_greatest}
use Rattle.operation_graph.specs.Adjacency.{count_of}
use Rattle.operation_graph.specs.Graphs.{Digraph, IsSet, rank_of}
use Rattle.operation_graph.proofs.Counts.{count_head, count_other, count_append, contains_counted}
use Rattle.plan_basics.proofs.Members.{contains_cases, contains_head, contains_later, contains_mapped, contains_none}
use Rattle.latest_start.specs.Spread.{AreInHeapOrder, IsQueue, IsTaken, IsWaiting, times_waiting, times_listed, unqueued}
use Rattle.latest_start.proofs.Counted.{count_moved}

abbrev pub Entries : Type 0
Entries = List (ℕ × ℕ)

abbrev pub Values : Type 0
Values = List (ℕ × ℤ)

-- ---- flags

pub unqueued_less : (queued : List Bool) (s : ℕ) → s < length queued → get_or queued s false ≡ false → unqueued (set queued s true) + 1 ≡ unqueued queued
unqueued_less [] s lt off = absurd (omega (arith, lt))
unqueued_less (q ∷ queued) zero lt off = let e : cond {A = ℕ} q 0 1 ≡ 1 = ap (λ b. cond {A = ℕ} b 0 1) off in omega (arith, e)
unqueued_less (q ∷ queued) (suc s) lt off = omega (arith, unqueued_less queued s (omega (arith, lt)) off)

set_there : (queued : List Bool) (s : ℕ) → s < length queued → get_or (set queued s true) s false ≡ true
set_there [] s lt = absurd (omega (arith, lt))
set_there (q ∷ queued) zero lt = refl
set_there (q ∷ queued) (suc s) lt = set_there queued s (omega (arith, lt))

set_before : (queued : List Bool) (s n : ℕ) → IsSet (set queued s true) n → (n ≡ s) ⊎ IsSet queued n
set_before queued s n h = elim (cases_eq n s) [
  | inl is ↦ inl is
  | inr other ↦ inr (sym (get_or-set_other queued s n true false other) ∙ h)
]

none_set : (m n : ℕ) → IsSet (replicate m false) n → ⊥
none_set zero n h = true≢false (sym h)
none_set (suc m) zero h = true≢false (sym h)
none_set (suc m) (suc n) h = none_set m n h

abbrev flag : Bool → ℕ
flag b = cond b 1 0

one_at_most : (b : Bool) → flag b ≤ 1
one_at_most true = omega arith
one_at_most false = omega arith

-- ---- how often a node is there

times_moved : (xs ys : Entries) (n : ℕ) → IsPermutation xs ys → times_waiting ys n ≡ times_waiting xs n
times_moved xs ys n moved = count_moved (map (λ (e : ℕ × ℕ). e.1) xs) (map (λ (e : ℕ × ℕ). e.1) ys) n (IsPermutation-map (λ (e : ℕ × ℕ). e.1) xs ys moved)

times_more : (values : Values) (n : ℕ) (v : ℤ) (m : ℕ) → times_listed (values ++ (n, v) ∷ []) m ≡ times_listed values m + cond (eqb n m) 1 0
times_more values n v m =
    let apart = ap (count_of m) (map-append (λ (p : ℕ × ℤ). p.0) values ((n, v) ∷ [])) in
    let sum = count_append m (map (λ (p : ℕ × ℤ). p.0) values) (n ∷ []) in
    omega (arith, apart, sum)

-- ---- ranks

abbrev pub total : List ℕ → ℕ
total [] = 0
total (x ∷ xs) = x + total xs

pub under_total : (xs : List ℕ) (n : ℕ) → get_or xs n 0 ≤ total xs
under_total [] n = omega arith
under_total (x ∷ xs) zero = let e : total (x ∷ xs) ≡ x + total xs = refl in omega (arith, e)
under_total (x ∷ xs) (suc n) = let e : total (x ∷ xs) ≡ x + total xs = refl in omega (arith, e, under_total xs n)

module _ (g : Digraph) where
  -- ---- a node is to be queued

  pub queue_passed : (queued : List Bool) (heap : Entries) (values : Values) (rest : List ℕ) (top s : ℕ) → IsQueue g queued heap values (s ∷ rest) top → IsQueue g queued heap values rest top
  queue_passed queued heap values rest top s h = record {
    size = h.size;
    in_order = h.in_order;
    entries = h.entries;
    to_queue = λ n has. h.to_queue n (contains_later s rest n has);
    taken = h.taken;
    once = h.once;
  }

  -- a node that was queued is in the heap, as its rank shows
  pub waiting_still : (queued : List Bool) (heap : Entries) (values : Values) (rest : List ℕ) (top s : ℕ) → IsSet queued s → IsQueue g queued heap values (s ∷ rest) top → (b : ℕ)
      → IsWaiting g heap (s ∷ rest) b → IsWaiting g heap rest b
  waiting_still queued heap values rest top s on h b (inl has) = inl has
  waiting_still queued heap values rest top s on h b (inr has) = elim (contains_cases s rest b has) [
    | inl e ↦ elim (h.taken s on) [
      | inl there ↦ inl (subst (λ m. Contains heap (rank_of g m, m)) e there)
      | inr told ↦ absurd (let less = h.to_queue s (contains_head s rest) in omega (arith, told, less))
    ]
    | inr later ↦ inr later
  ]

  -- what is no node isn't queued
  pub waiting_nodes : (heap : Entries) (rest : List ℕ) (s : ℕ) → g.nodes ≤ s → (b : ℕ) → b < g.nodes → IsWaiting g heap (s ∷ rest) b → IsWaiting g heap rest b
  waiting_nodes heap rest s past b in_g (inl has) = inl has
  waiting_nodes heap rest s past b in_g (inr has) = elim (contains_cases s rest b has) [ inl e ↦ absurd (omega (arith, past, in_g, e)) | inr later ↦ inr later ]

  module _ (heap new_heap : Entries) (rest : List ℕ) (s r : ℕ) (is : r ≡ rank_of g s) (moved : IsPermutation ((r, s) ∷ heap) new_heap) where
    there : (e : ℕ × ℕ) → Contains heap e → Contains new_heap e
    there e has = Contains-permutation ((r, s) ∷ heap) new_heap e moved (contains_later (r, s) heap e has)

    here : Contains new_heap (rank_of g s, s)
    here = subst (λ m. Contains new_heap (m, s)) is (Contains-permutation ((r, s) ∷ heap) new_heap (r, s) moved (contains_head (r, s) heap))

    pub waiting_now : (b : ℕ) → IsWaiting g heap (s ∷ rest) b → IsWaiting g new_heap rest b
    waiting_now b (inl has) = inl (there (rank_of g b, b) has)
    waiting_now b (inr has) = elim (contains_cases s rest b has) [
      | inl e ↦ inl (subst (λ m. Contains new_heap (rank_of g m, m)) e here)
      | inr later ↦ inr later
    ]

    module _ (queued : List Bool) (values : Values) (top : ℕ) (in_g : s < g.nodes) (off : get_or queued s false ≡ false) (keeps : AreInHeapOrder heap → AreInHeapOrder new_heap) (h : IsQueue g queued heap values (s ∷ rest) top) where
      own : rank_of g s < top
      own = h.to_queue s (contains_head s rest)

      entry : (e : ℕ × ℕ) → Contains new_heap e → (e.1 < g.nodes) × (e.0 ≡ rank_of g e.1) × (e.0 ≤ top)
      entry e has = elim (contains_cases (r, s) heap e (Contains-permutation new_heap ((r, s) ∷ heap) e (IsPermutation-sym ((r, s) ∷ heap) new_heap moved) has)) [
        | inl same ↦ subst (λ (x : ℕ × ℕ). (x.1 < g.nodes) × (x.0 ≡ rank_of g x.1) × (x.0 ≤ top)) same (in_g, is, omega (arith, is, own))
        | inr old ↦ h.entries e old
      ]

      once : (n : ℕ) → times_waiting new_heap n + times_listed values n ≤ flag (get_or (set queued s true) n false)
      once n =
          let times = times_moved ((r, s) ∷ heap) new_heap n moved in
          let before = h.once n in
          elim (cases_eq n s) [
            | inl same ↦
                let head = count_head s n (map (λ (e : ℕ × ℕ). e.1) heap) (sym same) in
                let was : flag (get_or queued n false) ≡ 0 = ap flag (ap (λ k. get_or queued k false) same ∙ off) in
                let now : flag (get_or (set queued s true) n false) ≡ 1 = ap flag (ap (λ k. get_or (set queued s true) k false) same ∙ set_there queued s (let size = h.size in omega (arith, in_g, size))) in
                omega (arith, times, before, head, was, now)
            | inr other ↦
                let apart = count_other s n (map (λ (e : ℕ × ℕ). e.1) heap) (λ e. other (sym e)) in
                let same : flag (get_or (set queued s true) n false) ≡ flag (get_or queued n false) = ap flag (get_or-set_other queued s n true false other) in
                omega (arith, times, before, apart, same)
          ]

      pub queue_pushed : IsQueue g (set queued s true) new_heap values rest top
      queue_pushed = record {
        size = length-set queued s true ∙ h.size;
        in_order = keeps h.in_order;
        entries = entry;
        to_queue = λ n has. h.to_queue n (contains_later s rest n has);
        taken = λ n on. elim (set_before queued s n on) [
          | inl e ↦ inl (subst (λ m. Contains new_heap (rank_of g m, m)) (sym e) here)
          | inr old ↦ elim (h.taken n old) [ inl has ↦ inl (there (rank_of g n, n) has) | inr told ↦ inr told ]
        ];
        once = once;
      }

  -- ---- a node is taken from the heap

  module _ (queued : List Bool) (heap left : Entries) (values : Values) (top r n : ℕ) (t : IsTaken heap r n left) (h : IsQueue g queued heap values [] top) where
    pub taken_entry : (n < g.nodes) × (r ≡ rank_of g n) × (r ≤ top)
    taken_entry = h.entries (r, n) (Contains-permutation ((r, n) ∷ left) heap (r, n) (IsPermutation-sym heap ((r, n) ∷ left) t.moved) (contains_head (r, n) left))

    in_heap : (e : ℕ × ℕ) → Contains left e → Contains heap e
    in_heap e has = Contains-permutation ((r, n) ∷ left) heap e (IsPermutation-sym heap ((r, n) ∷ left) t.moved) (contains_later (r, n) left e has)

    left_cases : (m : ℕ) → Contains heap (rank_of g m, m) → (m ≡ n) ⊎ Contains left (rank_of g m, m)
    left_cases m has = elim (contains_cases (r, n) left (rank_of g m, m) (Contains-permutation heap ((r, n) ∷ left) (rank_of g m, m) t.moved has)) [
      | inl same ↦ inl (ap (λ (x : ℕ × ℕ). x.1) (sym same))
      | inr later ↦ inr later
    ]

    -- who waited is this node or waits still
    pub waiting_cases : (rest : List ℕ) (b : ℕ) → IsWaiting g heap [] b → (b ≡ n) ⊎ IsWaiting g left rest b
    waiting_cases rest b (inl has) = elim (left_cases b has) [ inl same ↦ inl same | inr later ↦ inr (inl later) ]
    waiting_cases rest b (inr none) = absurd (contains_none b none)

    -- how often others are there
    times_taken : (m : ℕ) → times_waiting heap m ≡ cond (eqb n m) 1 0 + times_waiting left m
    times_taken m = sym (times_moved heap ((r, n) ∷ left) m t.moved)

    -- it isn't listed yet
    pub not_listed : (v : ℤ) → ¬ Contains values (n, v)
    not_listed v has =
        let listed : 0 < times_listed values n = contains_counted n (map (λ (p : ℕ × ℤ). p.0) values) (contains_mapped (λ (p : ℕ × ℤ). p.0) values (n, v) has) in
        let waited = times_moved heap ((r, n) ∷ left) n t.moved in
        let head = count_head n n (map (λ (e : ℕ × ℕ). e.1) left) refl in
        let most = one_at_most (get_or queued n false) in
        let once = h.once n in
        omega (arith, listed, waited, head, most, once)

    -- its predecessors are still to be queued; it may be listed
    pub queue_taken : (rest : List ℕ) (listed : Values) → ((m : ℕ) → Contains rest m → rank_of g m < r) → ((m : ℕ) → times_listed listed m ≤ times_listed values m + cond (eqb n m) 1 0) → IsQueue g queued left listed rest r
    queue_taken rest listed low most = record {
      size = h.size;
      in_order = t.in_order;
      entries = λ e has. let old = h.entries e (in_heap e has) in (old.0, old.1, t.low e has);
      to_queue = low;
      taken = λ m on. elim (h.taken m on) [
        | inl has ↦ elim (left_cases m has) [
          | inl same ↦ inr (let is = taken_entry.1 in let e : rank_of g m ≡ rank_of g n = ap (rank_of g) same in omega (arith, is, e))
          | inr later ↦ inl later
        ]
        | inr told ↦ inr (let under = taken_entry.2 in omega (arith, told, under))
      ];
      once = λ m. let before = h.once m in let more = most m in omega (arith, times_taken m, before, more);
    }

    pub queue_kept : IsQueue g queued left values [] r
    queue_kept = queue_taken [] values (λ m has. absurd (contains_none m has)) (λ m. omega arith)

    pub queue_listed : (v : ℤ) (preds : List ℕ) → ((m : ℕ) → Contains preds m → rank_of g m < rank_of g n) → IsQueue g queued left (values ++ (n, v) ∷ []) preds r
    queue_listed v preds low = queue_taken preds (values ++ (n, v) ∷ []) (λ m has. let less = low m has in let is = taken_entry.1 in omega (arith, less, is)) (λ m. omega (arith, times_more values n v m))

  -- ---- nothing is queued

  pub queue_begun : (m : ℕ) (changed : List ℕ) → length (replicate m false) ≡ g.nodes → AreInHeapOrder [] → IsQueue g (replicate m false) [] [] changed (total g.ranks + 1)
  queue_begun m changed size in_order = record {
    size = size;
    in_order = in_order;
    entries = λ e has. absurd (contains_none e has);
    to_queue = λ n has. omega (arith, under_total g.ranks n);
    taken = λ n on. absurd (none_set m n on);
    once = λ n. omega arith;
  }

-- what a pop gives
pub taken_by_pop : (before left : Entries) (r n : ℕ) → IsPermutation before ((r, n) ∷ left) → AreInHeapOrder left × IsUpperBound (λ a b. ordering_then (nat_cmp a.0 b.0) (nat_cmp a.1 b.1)) (r, n) before → IsTaken before r n left
taken_by_pop before left r n moved greatest = record {
  moved = moved;
  low = λ e has.
      let there = Contains-permutation ((r, n) ∷ left) before e (IsPermutation-sym before ((r, n) ∷ left) moved) (contains_later (r, n) left e has) in
      subst (λ (y : ℕ × ℕ). y.0 ≤ r) there.2 (first_le_from_greatest nat_cmp (r, n) before greatest.1 there.0 e there.1);
  in_order = greatest.0;
}
