-- How many predecessors aren't satisfied, and what one node's flag changes of it.
use Rattle.std.proofs.Common.{Bool, ◌⊎◌, ◌≡◌, ◌≢◌, inl, inr, refl, sym, ap, subst, ◌∙◌, true≢false, arith, ℕ, zero, suc, eqb, leb, ◌+◌, ◌<◌, ◌≤◌, true, false, cond, List, [], ◌∷◌, ◌++◌, length, get_or, set, Contains, get_or-set_same, get_or-set_other, ap₂}
use Rattle.std.proofs.lemmas.Bool.{cases_eq, cases_lt, cases_Bool}
use Rattle.std.proofs.lemmas.Bool.Decides.{nat_tests}
use Rattle.std.specs.FinSet.{contains}
use Rattle.operation_graph.specs.Adjacency.{count_of}
use Rattle.operation_graph.specs.Graphs.{Digraph, HasEdge, AreExactly, AreDifferent}
use Rattle.operation_graph.proofs.Counts.{count_head, count_other, contains_counted, counted_contains, eqb_same, eqb_other}
use Rattle.satisfaction.specs.declared.nodes.WaitState.{WaitState}
use Rattle.satisfaction.specs.Counters.{wait_state_at, is_satisfied_at, edge_count, one_if_waiting, unsatisfied_below, unsatisfied_count, waiting_count, leading_count, no_wait_state}

-- ---- what is kept after a write

pub kept_there : (wait_states : List WaitState) (s : ℕ) (v : WaitState) (n : ℕ) → s < length wait_states → n ≡ s → wait_state_at (set wait_states s v) n ≡ v
kept_there wait_states s v n lt same = ap (λ m. get_or (set wait_states s v) m no_wait_state) same ∙ get_or-set_same wait_states s v no_wait_state lt

pub kept_else : (wait_states : List WaitState) (s : ℕ) (v : WaitState) (n : ℕ) → n ≢ s → wait_state_at (set wait_states s v) n ≡ wait_state_at wait_states n
kept_else wait_states s v n other = get_or-set_other wait_states s n v no_wait_state other

-- ---- edges

pub edge_is_one : (g : Digraph) (p n : ℕ) → HasEdge g p n → edge_count g p n ≡ 1
edge_is_one g p n e = ap (λ b. cond {A = ℕ} b 1 0) e

pub no_edge_is_none : (g : Digraph) (p n : ℕ) → contains g.edges (p, n) ≡ false → edge_count g p n ≡ 0
no_edge_is_none g p n e = ap (λ b. cond {A = ℕ} b 1 0) e

pub one_is_edge : (g : Digraph) (p n : ℕ) → 0 < edge_count g p n → HasEdge g p n
one_is_edge g p n some = elim (cases_Bool (contains g.edges (p, n))) [
  | inl there ↦ there
  | inr absent ↦ absurd (omega (arith, some, no_edge_is_none g p n absent))
]

-- ---- flags

-- how many aren't satisfied goes by the flags alone
pub unset_same : (g : Digraph) (a b : List WaitState) (m n : ℕ) → ((p : ℕ) → p < m → is_satisfied_at a p ≡ is_satisfied_at b p) → unsatisfied_below g a m n ≡ unsatisfied_below g b m n
unset_same g a b zero n same = refl
unset_same g a b (suc p) n same =
    let head : cond {A = ℕ} (is_satisfied_at a p) 0 (edge_count g p n) ≡ cond {A = ℕ} (is_satisfied_at b p) 0 (edge_count g p n) = ap (λ f. cond {A = ℕ} f 0 (edge_count g p n)) (same p (omega arith)) in
    omega (arith, head, unset_same g a b p n (λ q lt. same q (omega (arith, lt))))

-- and by those of its predecessors
pub unset_same_but : (g : Digraph) (a b : List WaitState) (m n : ℕ) → ((p : ℕ) → p < m → (is_satisfied_at a p ≡ is_satisfied_at b p) ⊎ (edge_count g p n ≡ 0)) → unsatisfied_below g a m n ≡ unsatisfied_below g b m n
unset_same_but g a b zero n same = refl
unset_same_but g a b (suc p) n same =
    let none : (f : Bool) → edge_count g p n ≡ 0 → cond {A = ℕ} f 0 (edge_count g p n) ≡ 0 = λ f e. ap (cond {A = ℕ} f 0) e ∙ elim f as (λ b. cond {A = ℕ} b 0 0 ≡ 0) [ true ↦ refl | false ↦ refl ] in
    let head : cond {A = ℕ} (is_satisfied_at a p) 0 (edge_count g p n) ≡ cond {A = ℕ} (is_satisfied_at b p) 0 (edge_count g p n) = elim (same p (omega arith)) [
      | inl flag ↦ ap (λ f. cond {A = ℕ} f 0 (edge_count g p n)) flag
      | inr e ↦ none (is_satisfied_at a p) e ∙ sym (none (is_satisfied_at b p) e)
    ] in
    omega (arith, head, unset_same_but g a b p n (λ q lt. same q (omega (arith, lt))))

-- b has s satisfied, a hasn't, and else they agree
pub unset_less : (g : Digraph) (a b : List WaitState) (s m n : ℕ) → s < m → is_satisfied_at a s ≡ false → is_satisfied_at b s ≡ true → ((p : ℕ) → p ≢ s → is_satisfied_at a p ≡ is_satisfied_at b p)
    → unsatisfied_below g a m n ≡ unsatisfied_below g b m n + edge_count g s n
unset_less g a b s zero n lt off on others = absurd (omega (arith, lt))
unset_less g a b s (suc p) n lt off on others = elim (cases_eq p s) [
  | inl same ↦
      let x : cond {A = ℕ} (is_satisfied_at a p) 0 (edge_count g p n) ≡ edge_count g s n =
      ap (λ q. cond {A = ℕ} (is_satisfied_at a q) 0 (edge_count g q n)) same ∙ ap (λ f. cond {A = ℕ} f 0 (edge_count g s n)) off in
      let y : cond {A = ℕ} (is_satisfied_at b p) 0 (edge_count g p n) ≡ 0 =
      ap (λ q. cond {A = ℕ} (is_satisfied_at b q) 0 (edge_count g q n)) same ∙ ap (λ f. cond {A = ℕ} f 0 (edge_count g s n)) on in
      omega (arith, x, y, unset_same g a b p n (λ q below. others q (λ e. omega (arith, below, e, same))))
  | inr other ↦
      let x : cond {A = ℕ} (is_satisfied_at a p) 0 (edge_count g p n) ≡ cond {A = ℕ} (is_satisfied_at b p) 0 (edge_count g p n) = ap (λ f. cond {A = ℕ} f 0 (edge_count g p n)) (others p other) in
      omega (arith, x, unset_less g a b s p n (omega (arith, lt, other)) off on others)
]

-- none is unset just where each predecessor is satisfied
pub set_if_none : (g : Digraph) (wait_states : List WaitState) (m n p : ℕ) → unsatisfied_below g wait_states m n ≡ 0 → p < m → HasEdge g p n → is_satisfied_at wait_states p ≡ true
set_if_none g wait_states zero n p none lt e = absurd (omega (arith, lt))
set_if_none g wait_states (suc q) n p none lt e = elim (cases_eq p q) [
  | inl same ↦ elim (cases_Bool (is_satisfied_at wait_states p)) [
    | inl there ↦ there
    | inr absent ↦
        let x : cond {A = ℕ} (is_satisfied_at wait_states q) 0 (edge_count g q n) ≡ 1 =
        ap (λ r. cond {A = ℕ} (is_satisfied_at wait_states r) 0 (edge_count g r n)) (sym same) ∙ ap (λ f. cond {A = ℕ} f 0 (edge_count g p n)) absent ∙ edge_is_one g p n e in
        absurd (omega (arith, none, x))
  ]
  | inr other ↦ set_if_none g wait_states q n p (omega (arith, none)) (omega (arith, lt, other)) e
]

pub none_if_set : (g : Digraph) (wait_states : List WaitState) (m n : ℕ) → ((p : ℕ) → p < m → HasEdge g p n → is_satisfied_at wait_states p ≡ true) → unsatisfied_below g wait_states m n ≡ 0
none_if_set g wait_states zero n all = refl
none_if_set g wait_states (suc p) n all = elim (cases_Bool (contains g.edges (p, n))) [
  | inl there ↦
      let x : cond {A = ℕ} (is_satisfied_at wait_states p) 0 (edge_count g p n) ≡ 0 = ap (λ f. cond {A = ℕ} f 0 (edge_count g p n)) (all p (omega arith) there) in
      omega (arith, x, none_if_set g wait_states p n (λ q lt. all q (omega (arith, lt))))
  | inr absent ↦
      let x : cond {A = ℕ} (is_satisfied_at wait_states p) 0 (edge_count g p n) ≤ 0 = elim (cases_Bool (is_satisfied_at wait_states p)) [
        | inl on ↦ omega (arith, ap (λ f. cond {A = ℕ} f 0 (edge_count g p n)) on)
        | inr off ↦ omega (arith, ap (λ f. cond {A = ℕ} f 0 (edge_count g p n)) off, no_edge_is_none g p n absent)
      ] in
      omega (arith, x, none_if_set g wait_states p n (λ q lt. all q (omega (arith, lt))))
]

one_at_most : (g : Digraph) (p n : ℕ) → edge_count g p n ≤ 1
one_at_most g p n = elim (cases_Bool (contains g.edges (p, n))) [
  | inl there ↦ omega (arith, edge_is_one g p n there)
  | inr absent ↦ omega (arith, no_edge_is_none g p n absent)
]

-- they are no more than the nodes
pub unset_at_most : (g : Digraph) (wait_states : List WaitState) (m n : ℕ) → unsatisfied_below g wait_states m n ≤ m
unset_at_most g wait_states zero n = omega arith
unset_at_most g wait_states (suc p) n = elim (cases_Bool (is_satisfied_at wait_states p)) [
  | inl on ↦ omega (arith, ap (λ f. cond {A = ℕ} f 0 (edge_count g p n)) on, unset_at_most g wait_states p n)
  | inr off ↦ omega (arith, ap (λ f. cond {A = ℕ} f 0 (edge_count g p n)) off, one_at_most g p n, unset_at_most g wait_states p n)
]

-- ---- the nodes at work, and the successors of one

pub owed_push : (g : Digraph) (work : List ℕ) (p n : ℕ) → leading_count g (work ++ p ∷ []) n ≡ leading_count g work n + edge_count g p n
owed_push g [] p n = omega arith
owed_push g (q ∷ work) p n = omega (arith, owed_push g work p n)

different_rest : (x : ℕ) (xs : List ℕ) → AreDifferent (x ∷ xs) → AreDifferent xs
different_rest x xs h i j d lt within = h (suc i) (suc j) d (omega (arith, lt)) (omega (arith, within))

different_head : (x : ℕ) (xs : List ℕ) → AreDifferent (x ∷ xs) → Contains xs x → ⊥
different_head x xs h (j, lt, is) = h 0 (suc j) x (omega arith) (omega (arith, lt)) (sym is)

pub once_if_different : (xs : List ℕ) → AreDifferent xs → (n : ℕ) → count_of n xs ≤ 1
once_if_different [] h n = omega arith
once_if_different (x ∷ xs) h n = elim (cases_eq x n) [
  | inl same ↦ elim (cases_eq (count_of n xs) 0) [
    | inl none ↦ omega (arith, none, count_head x n xs same)
    | inr some ↦ absurd (different_head x xs h (subst (Contains xs) (sym same) (counted_contains n xs (omega (arith, some)))))
  ]
  | inr other ↦ omega (arith, count_other x n xs other, once_if_different xs (different_rest x xs h) n)
]

-- the list of a node's successors has each of them once
pub listed_is_one : (g : Digraph) (p : ℕ) (xs : List ℕ) → AreExactly (HasEdge g p) xs → (n : ℕ) → count_of n xs ≡ edge_count g p n
listed_is_one g p xs exact n = elim (cases_Bool (contains g.edges (p, n))) [
  | inl there ↦ omega (arith, edge_is_one g p n there, contains_counted n xs ((exact.1 n).1 there), once_if_different xs exact.0 n)
  | inr absent ↦ elim (cases_eq (count_of n xs) 0) [
    | inl none ↦ omega (arith, none, no_edge_is_none g p n absent)
    | inr some ↦ absurd (true≢false (sym ((exact.1 n).0 (counted_contains n xs (omega (arith, some)))) ∙ absent))
  ]
]

-- ---- the measure

pub unsatisfied_count_less : (wait_states : List WaitState) (s : ℕ) (v : WaitState) → s < length wait_states → is_satisfied_at wait_states s ≡ false → v.satisfied ≡ true → unsatisfied_count (set wait_states s v) + 1 ≡ unsatisfied_count wait_states
unsatisfied_count_less [] s v lt off on = absurd (omega (arith, lt))
unsatisfied_count_less (k ∷ wait_states) zero v lt off on =
    let x : cond {A = ℕ} k.satisfied 0 1 ≡ 1 = ap (λ f. cond {A = ℕ} f 0 1) off in
    let y : cond {A = ℕ} v.satisfied 0 1 ≡ 0 = ap (λ f. cond {A = ℕ} f 0 1) on in
    omega (arith, x, y)
unsatisfied_count_less (k ∷ wait_states) (suc s) v lt off on = omega (arith, unsatisfied_count_less wait_states s v (omega (arith, lt)) off on)

pub unsatisfied_count_same : (wait_states : List WaitState) (s : ℕ) (v : WaitState) → v.satisfied ≡ is_satisfied_at wait_states s → unsatisfied_count (set wait_states s v) ≡ unsatisfied_count wait_states
unsatisfied_count_same [] s v same = refl
unsatisfied_count_same (k ∷ wait_states) zero v same = ap (λ f. cond {A = ℕ} f 0 1 + unsatisfied_count wait_states) same
unsatisfied_count_same (k ∷ wait_states) (suc s) v same = ap (λ m. cond {A = ℕ} k.satisfied 0 1 + m) (unsatisfied_count_same wait_states s v same)

-- ---- how many wait

pub satisfied_is_none : (k : WaitState) → k.satisfied ≡ true → one_if_waiting k ≡ 0
satisfied_is_none k on = ap (λ f. cond {A = ℕ} f 0 (cond {A = ℕ} (eqb k.waiting 0) 0 1)) on

unsatisfied_is : (k : WaitState) → k.satisfied ≡ false → one_if_waiting k ≡ cond {A = ℕ} (eqb k.waiting 0) 0 1
unsatisfied_is k off = ap (λ f. cond {A = ℕ} f 0 (cond {A = ℕ} (eqb k.waiting 0) 0 1)) off

pub free_is_none : (k : WaitState) → k.waiting ≡ 0 → one_if_waiting k ≡ 0
free_is_none k free = elim (cases_Bool k.satisfied) [
  | inl on ↦ satisfied_is_none k on
  | inr off ↦ unsatisfied_is k off ∙ ap (λ b. cond {A = ℕ} b 0 1) (eqb_same k.waiting 0 free)
]

pub waiting_is_one : (k : WaitState) → k.satisfied ≡ false → 0 < k.waiting → one_if_waiting k ≡ 1
waiting_is_one k off waits = unsatisfied_is k off ∙ ap (λ b. cond {A = ℕ} b 0 1) (eqb_other k.waiting 0 (λ e. omega (arith, e, waits)))

pub one_if_waiting_at_most : (k : WaitState) → one_if_waiting k ≤ 1
one_if_waiting_at_most k = elim (cases_Bool k.satisfied) [
  | inl on ↦ omega (arith, satisfied_is_none k on)
  | inr off ↦ elim (cases_eq k.waiting 0) [
    | inl free ↦ omega (arith, free_is_none k free)
    | inr waits ↦ omega (arith, waiting_is_one k off (omega (arith, waits)))
  ]
]

pub waiting_alike : (a b : WaitState) → a.satisfied ≡ b.satisfied → a.waiting ≡ b.waiting → one_if_waiting a ≡ one_if_waiting b
waiting_alike a b same_flag same_waiting = ap₂ (λ f n. cond {A = ℕ} f 0 (cond {A = ℕ} (eqb n 0) 0 1)) same_flag same_waiting

-- a write takes away what stood there and adds what stands there now
pub waiting_count_set : (wait_states : List WaitState) (s : ℕ) (v : WaitState) → s < length wait_states → waiting_count (set wait_states s v) + one_if_waiting (wait_state_at wait_states s) ≡ waiting_count wait_states + one_if_waiting v
waiting_count_set [] s v lt = absurd (omega (arith, lt))
waiting_count_set (k ∷ wait_states) zero v lt = omega arith
waiting_count_set (k ∷ wait_states) (suc s) v lt = omega (arith, waiting_count_set wait_states s v (omega (arith, lt)))

-- how many of these numbers are at least k
abbrev count_from : ℕ → List ℕ → ℕ
count_from k [] = 0
count_from k (x ∷ xs) = cond {A = ℕ} (leb k x) 1 0 + count_from k xs

from_at_most : (k : ℕ) (xs : List ℕ) → count_from k xs ≤ length xs
from_at_most k [] = omega arith
from_at_most k (x ∷ xs) = elim (cases_Bool (leb k x)) [
  | inl on ↦ omega (arith, ap (λ b. cond {A = ℕ} b 1 0) on, from_at_most k xs)
  | inr off ↦ omega (arith, ap (λ b. cond {A = ℕ} b 1 0) off, from_at_most k xs)
]

leb_yes : (m n : ℕ) → m ≤ n → leb m n ≡ true
leb_yes m n le = grind (arith, nat_tests)

leb_no : (m n : ℕ) → n < m → leb m n ≡ false
leb_no m n lt = grind (arith, nat_tests)

from_next : (k : ℕ) (xs : List ℕ) → count_from (k + 1) xs + count_of k xs ≤ count_from k xs
from_next k [] = omega arith
from_next k (x ∷ xs) = elim (cases_eq x k) [
  | inl same ↦
      let next : cond {A = ℕ} (leb (k + 1) x) 1 0 ≡ 0 = ap (λ b. cond {A = ℕ} b 1 0) (leb_no (k + 1) x (omega (arith, same))) in
      let this : cond {A = ℕ} (leb k x) 1 0 ≡ 1 = ap (λ b. cond {A = ℕ} b 1 0) (leb_yes k x (omega (arith, same))) in
      omega (arith, next, this, count_head x k xs same, from_next k xs)
  | inr other ↦
      let fewer : cond {A = ℕ} (leb (k + 1) x) 1 0 ≤ cond {A = ℕ} (leb k x) 1 0 = elim (cases_lt k x) [
        | inl less ↦ omega (arith, ap (λ b. cond {A = ℕ} b 1 0) (leb_yes (k + 1) x (omega (arith, less))), ap (λ b. cond {A = ℕ} b 1 0) (leb_yes k x (omega (arith, less))))
        | inr more ↦ omega (arith, ap (λ b. cond {A = ℕ} b 1 0) (leb_no (k + 1) x (omega (arith, more))))
      ] in
      omega (arith, fewer, count_other x k xs other, from_next k xs)
]

-- more wait by no more than there are nodes where more may
pub fewer_waiting : (a b : List WaitState) (xs : List ℕ) → length a ≡ length b → ((n : ℕ) → n < length a → ¬ Contains xs n → one_if_waiting (wait_state_at a n) ≤ one_if_waiting (wait_state_at b n)) → waiting_count a ≤ waiting_count b + length xs
fewer_waiting a b xs size each = let some = go 0 a b size (λ n lt out. each n lt (subst (λ m. ¬ Contains xs m) (plain n) out)) in omega (arith, some, from_at_most 0 xs)
  where
    plain : (n : ℕ) → 0 + n ≡ n
    plain n = omega arith

    go : (k : ℕ) (a b : List WaitState) → length a ≡ length b → ((n : ℕ) → n < length a → ¬ Contains xs (k + n) → one_if_waiting (wait_state_at a n) ≤ one_if_waiting (wait_state_at b n)) → waiting_count a ≤ waiting_count b + count_from k xs
    go k [] b size each = omega arith
    go k (x ∷ a) [] size each = absurd (omega (arith, size))
    go k (x ∷ a) (y ∷ b) size each =
        let rest = go (k + 1) a b (omega (arith, size)) (λ n lt out. each (suc n) (omega (arith, lt)) (subst (λ m. ¬ Contains xs m) (moved k n) out)) in
        elim (cases_eq (count_of k xs) 0) [
          | inl none ↦
              let here : one_if_waiting x ≤ one_if_waiting y = each 0 (omega arith) (λ has. omega (arith, none, contains_counted k xs (subst (Contains xs) (first k) has))) in
              omega (arith, rest, here, from_next k xs)
          | inr some ↦ omega (arith, rest, some, from_next k xs, one_if_waiting_at_most x)
        ]
      where
        moved : (k n : ℕ) → (k + 1) + n ≡ k + suc n
        moved k n = omega arith

        first : (k : ℕ) → k + 0 ≡ k
        first k = omega arith
