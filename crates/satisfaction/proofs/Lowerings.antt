-- Where a cascade writes: at nodes that were changed, and at those that wait for fewer predecessors.
use Rattle.std.proofs.Common.{◌≡◌, ◌⊎◌, inl, inr, sym, ap, subst, ◌∙◌, true≢false, arith, ℕ, ◌<◌, ◌≤◌, List, [], ◌∷◌, ◌++◌, length, set, Contains}
use Rattle.std.proofs.lemmas.Bool.{cases_Bool, cases_eq, cases_lt}
use Rattle.std.proofs.lemmas.List.{get_or_past}
use Rattle.std.proofs.lemmas.List.Elements.{Contains-push_cases}
use Rattle.std.specs.FinSet.{contains}
use Rattle.operation_graph.specs.Graphs.{Digraph, HasEdge}
use Rattle.plan_basics.proofs.Members.{contains_cases, contains_head, contains_later, contains_none}
use Rattle.satisfaction.specs.declared.nodes.WaitState.{WaitState}
use Rattle.satisfaction.specs.declared.nodes.Rule.{Rule}
use Rattle.satisfaction.specs.Changes.{AreAround, IsAfterOne, IsClearing, IsLowering}
use Rattle.satisfaction.specs.Counters.{AreRight, no_wait_state, waiting_at}
use Rattle.satisfaction.proofs.Clearings.{member_or_not}
use Rattle.satisfaction.proofs.Counting.{kept_else, kept_there, no_edge_is_none, unset_same_but}

abbrev Entry : Type 0
Entry = ℕ × WaitState

-- nothing is written
pub not_lowered : (xs : List ℕ) (wait_states : List WaitState) (journal : List Entry) → IsLowering xs wait_states journal wait_states journal
not_lowered xs wait_states journal = record { fewer = λ n. omega arith; places = λ e has. inl has }

-- one after the other
pub lowered_on : (xs : List ℕ) (a b c : List WaitState) (ja jb jc : List Entry) → IsLowering xs a ja b jb → IsLowering xs b jb c jc → IsLowering xs a ja c jc
lowered_on xs a b c ja jb jc x y = record {
  fewer = λ n. omega (arith, x.fewer n, y.fewer n);
  places = λ e has. elim (y.places e has) [
    | inl before ↦ elim (x.places e before) [
      | inl first ↦ inl first
      | inr there ↦ inr (elim there [ inl among ↦ inl among | inr less ↦ inr (omega (arith, less, y.fewer e.0)) ])
    ]
    | inr there ↦ inr (elim there [ inl among ↦ inl among | inr less ↦ inr (omega (arith, less, x.fewer e.0)) ])
  ];
}

-- with more nodes
pub lowered_wider : (xs ys : List ℕ) (a b : List WaitState) (ja jb : List Entry) → ((n : ℕ) → Contains xs n → Contains ys n) → IsLowering xs a ja b jb → IsLowering ys a ja b jb
lowered_wider xs ys a b ja jb more x = record {
  fewer = x.fewer;
  places = λ e has. elim (x.places e has) [ inl before ↦ inl before | inr there ↦ inr (elim there [ inl among ↦ inl (more e.0 among) | inr less ↦ inr less ]) ];
}

-- a node is written
pub write_lowers : (xs : List ℕ) (wait_states : List WaitState) (journal new_journal : List Entry) (n : ℕ) (v old : WaitState) → n < length wait_states → v.waiting ≤ waiting_at wait_states n
    → Contains xs n ⊎ (v.waiting < waiting_at wait_states n) → new_journal ≡ journal ++ (n, old) ∷ [] → IsLowering xs wait_states journal (set wait_states n v) new_journal
write_lowers xs wait_states journal new_journal n v old lt le which same = record {
  fewer = λ m. elim (cases_eq m n) [
    | inl is ↦ omega (arith, there m is, le, ap (waiting_at wait_states) is)
    | inr other ↦ omega (arith, ap (λ (k : WaitState). k.waiting) (kept_else wait_states n v m other))
  ];
  places = λ e has. elim (Contains-push_cases journal (n, old) e (subst (λ js. Contains js e) same has)) [
    | inl before ↦ inl before
    | inr here ↦
        let is : e.0 ≡ n = ap (λ (x : Entry). x.0) (sym here) in
        inr (elim which [ inl among ↦ inl (subst (Contains xs) (sym is) among) | inr less ↦ inr (omega (arith, there e.0 is, less, ap (waiting_at wait_states) is)) ])
  ];
}
  where
    there : (m : ℕ) → m ≡ n → waiting_at (set wait_states n v) m ≡ v.waiting
    there m is = ap (λ (k : WaitState). k.waiting) (kept_there wait_states n v m lt is)

-- ---- a rerun

pub after_or_not : (g : Digraph) (xs : List ℕ) (n : ℕ) → IsAfterOne g xs n ⊎ ((p : ℕ) → Contains xs p → ¬ HasEdge g p n)
after_or_not g [] n = inr (λ p has. absurd (contains_none p has))
after_or_not g (x ∷ xs) n = elim (cases_Bool (contains g.edges (x, n))) [
  | inl edge ↦ inl (x, contains_head x xs, edge)
  | inr none ↦ elim (after_or_not g xs n) [
    | inl some ↦ inl (some.0, contains_later x xs some.0 some.1, some.2)
    | inr never ↦ inr (λ p has edge. elim (contains_cases x xs p has) [
      | inl is ↦ true≢false (sym (subst (λ q. HasEdge g q n) (sym is) edge) ∙ none)
      | inr later ↦ never p later edge
    ])
  ]
]

-- what follows none that is cleared waits for as many as before
unraised : (g : Digraph) (before : List Rule) (start wait_states : List WaitState) (gone : List ℕ) → AreRight g before start → IsClearing g start gone wait_states []
    → (n : ℕ) → n < g.nodes → ((p : ℕ) → Contains gone p → ¬ HasEdge g p n) → waiting_at wait_states n ≡ waiting_at start n
unraised g before start wait_states gone right c n in_g none =
    let same = unset_same_but g wait_states start g.nodes n (λ p below. elim (member_or_not gone p) [
      | inl has ↦ inr (elim (cases_Bool (contains g.edges (p, n))) [ inl edge ↦ absurd (none p has edge) | inr absent ↦ no_edge_is_none g p n absent ])
      | inr out ↦ inl (c.others p out)
    ]) in
    omega (arith, c.counts n in_g, right.counts n in_g, same)

-- where something waits there is a node
waits_within : (wait_states : List WaitState) (n : ℕ) → 0 < waiting_at wait_states n → n < length wait_states
waits_within wait_states n some = elim (cases_lt n (length wait_states)) [
  | inl less ↦ less
  | inr past ↦ absurd (omega (arith, some, ap (λ (k : WaitState). k.waiting) (get_or_past wait_states n no_wait_state past)))
]

-- once all that is reached is cleared, and what follows is settled
pub around : (g : Digraph) (before : List Rule) (reached : List ℕ) (start wait_states new : List WaitState) (gone : List ℕ) (ja jb jc : List Entry)
    → AreRight g before start → IsClearing g start gone wait_states [] → ((n : ℕ) → Contains gone n → Contains reached n)
    → ((e : Entry) → Contains jb e → Contains ja e ⊎ (Contains reached e.0 ⊎ IsAfterOne g reached e.0)) → IsLowering reached wait_states jb new jc → AreAround g reached start ja new jc
around g before reached start wait_states new gone ja jb jc right c among cleared settled e has = elim (settled.places e has) [
  | inl earlier ↦ elim (cleared e earlier) [
    | inl first ↦ inl first
    | inr there ↦ inr (elim there [ inl in_reached ↦ inl in_reached | inr after ↦ inr (inl after) ])
  ]
  | inr there ↦ inr (elim there [
    | inl in_reached ↦ inl in_reached
    | inr less ↦ inr (elim (after_or_not g reached e.0) [
      | inl after ↦ inl after
      | inr none ↦
          let in_kept = waits_within wait_states e.0 (omega (arith, less)) in
          let same = unraised g before start wait_states gone right c e.0 (omega (arith, in_kept, c.size)) (λ p in_gone. none p (among p in_gone)) in
          inr (omega (arith, less, same))
    ])
  ])
]
