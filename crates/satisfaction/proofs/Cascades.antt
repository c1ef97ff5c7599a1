-- The steps of a cascade: a node is taken up, one counter falls, a node is satisfied; and what stands at its end.
use Rattle.std.proofs.Common.{◌≡◌, ◌⊎◌, inl, inr, refl, sym, ap, subst, ◌∙◌, arith, ℕ, ◌+◌, ◌<◌, true, false, List, [], ◌∷◌, ◌++◌, length, set, Contains, length-set}
use Rattle.std.proofs.lemmas.Bool.{cases_eq}
use Rattle.std.proofs.lemmas.List.Elements.{Contains-append_left, Contains-push_cases}
use Rattle.operation_graph.specs.Graphs.{Digraph, HasEdge, AreExactly, IsGraph}
use Rattle.operation_graph.proofs.Counts.{count_head, count_other}
use Rattle.plan_basics.proofs.Members.{contains_cases, contains_later, contains_none}
use Rattle.status_rules.specs.LeastSet.{by_given, by_all_before}
use Rattle.satisfaction.specs.declared.nodes.WaitState.{WaitState}
use Rattle.satisfaction.specs.declared.nodes.Rule.{Rule}
use Rattle.satisfaction.specs.Counters.{AreRight, IsCascade, IsDue, IsPassing, IsSatisfiedBy, is_satisfied_at, waiting_at, edge_count, unsatisfied_before}
use Rattle.satisfaction.proofs.Counting.{kept_there, kept_else, unset_same, unset_less, set_if_none, none_if_set, owed_push, listed_is_one}

module _ (g : Digraph) (rules : List Rule) where
  -- a node leaves the work: all its successors are still to be told
  pub taken_up : IsGraph g → (pending : List ℕ) (wait_states : List WaitState) (work : List ℕ) (p : ℕ) (xs : List ℕ) → AreExactly (HasEdge g p) xs
      → IsCascade g rules pending wait_states (work ++ p ∷ []) [] → IsCascade g rules pending wait_states work xs
  taken_up graph pending wait_states work p xs exact h = record {
    size = h.size;
    rules_size = h.rules_size;
    within = λ n has. h.within n (Contains-append_left work (p ∷ []) n has);
    rest_within = λ n has. (graph.ends p n ((exact.1 n).0 has)).1;
    sound = h.sound;
    closed = h.closed;
    counts = λ n lt. omega (arith, h.counts n lt, owed_push g work p n, listed_is_one g p xs exact n);
  }

  -- what the flags below a node count stays, where none of them changes
  flags_same : (wait_states : List WaitState) (s : ℕ) (v : WaitState) → s < length wait_states → v.satisfied ≡ is_satisfied_at wait_states s → (p : ℕ) → is_satisfied_at (set wait_states s v) p ≡ is_satisfied_at wait_states p
  flags_same wait_states s v lt same p = elim (cases_eq p s) [
    | inl is ↦ ap (λ (k : WaitState). k.satisfied) (kept_there wait_states s v p lt is) ∙ same ∙ ap (is_satisfied_at wait_states) (sym is)
    | inr other ↦ ap (λ (k : WaitState). k.satisfied) (kept_else wait_states s v p other)
  ]

  -- a counter falls, and its node isn't satisfied by that, or is already
  pub lowered : (wait_states : List WaitState) (work rest : List ℕ) (s : ℕ) (v : WaitState) → s < length wait_states → v.satisfied ≡ is_satisfied_at wait_states s → v.waiting + 1 ≡ waiting_at wait_states s
      → (is_satisfied_at wait_states s ≡ true) ⊎ (IsPassing rules s → v.waiting ≡ 0 → ⊥)
      → IsCascade g rules [] wait_states work (s ∷ rest) → IsCascade g rules [] (set wait_states s v) work rest
  lowered wait_states work rest s v lt same less why h = record {
    size = length-set wait_states s v ∙ h.size;
    rules_size = h.rules_size;
    within = h.within;
    rest_within = λ n has. h.rest_within n (contains_later s rest n has);
    sound = λ n in_g on. h.sound n in_g (sym (flags_same wait_states s v lt same n) ∙ on);
    closed = λ n in_g due. elim (cases_eq n s) [
      | inl is ↦ elim why [
        | inl on ↦ inl (flags_same wait_states s v lt same n ∙ ap (is_satisfied_at wait_states) is ∙ on)
        | inr not ↦ elim due [
          | inl given ↦ elim (h.closed n in_g (inl given)) [ inl on ↦ inl (flags_same wait_states s v lt same n ∙ on) | inr none ↦ absurd (contains_none n none) ]
          | inr passing ↦ absurd (not (subst (IsPassing rules) is passing.0) (sym (ap (λ (k : WaitState). k.waiting) (kept_there wait_states s v n lt is)) ∙ passing.1))
        ]
      ]
      | inr other ↦ elim (h.closed n in_g (elim due [ inl given ↦ inl given | inr passing ↦ inr (passing.0, sym (ap (λ (k : WaitState). k.waiting) (kept_else wait_states s v n other)) ∙ passing.1) ])) [
        | inl on ↦ inl (flags_same wait_states s v lt same n ∙ on)
        | inr none ↦ absurd (contains_none n none)
      ]
    ];
    counts = λ n in_g.
        let flags = unset_same g (set wait_states s v) wait_states g.nodes n (λ p below. flags_same wait_states s v lt same p) in
        elim (cases_eq n s) [
          | inl is ↦
              let new = ap (λ (k : WaitState). k.waiting) (kept_there wait_states s v n lt is) in
              let old = ap (waiting_at wait_states) is in
              omega (arith, new, old, less, flags, h.counts n in_g, count_head s n rest (sym is))
          | inr other ↦
              let old = ap (λ (k : WaitState). k.waiting) (kept_else wait_states s v n other) in
              omega (arith, old, flags, h.counts n in_g, count_other s n rest (λ e. other (sym e)))
        ];
  }

  -- a node is satisfied, and put to work; its counter counts `less` nodes of the rest no more
  module _ (pending : List ℕ) (wait_states : List WaitState) (work rest new_rest : List ℕ) (s : ℕ) (v : WaitState) (lt : s < length wait_states) (on : v.satisfied ≡ true) (off : is_satisfied_at wait_states s ≡ false)
      (size : length wait_states ≡ g.nodes) (due : IsSatisfiedBy g rules s) where
    set_flag : (n : ℕ) → is_satisfied_at (set wait_states s v) n ≡ true → (n ≡ s) ⊎ (is_satisfied_at wait_states n ≡ true)
    set_flag n is_on = elim (cases_eq n s) [
      | inl is ↦ inl is
      | inr other ↦ inr (sym (ap (λ (k : WaitState). k.satisfied) (kept_else wait_states s v n other)) ∙ is_on)
    ]

    flag_there : (n : ℕ) → n ≡ s → is_satisfied_at (set wait_states s v) n ≡ true
    flag_there n is = ap (λ (k : WaitState). k.satisfied) (kept_there wait_states s v n lt is) ∙ on

    pub set_sound : ((n : ℕ) → n < g.nodes → is_satisfied_at wait_states n ≡ true → IsSatisfiedBy g rules n) → (n : ℕ) → n < g.nodes → is_satisfied_at (set wait_states s v) n ≡ true → IsSatisfiedBy g rules n
    set_sound sound n in_g is_on = elim (set_flag n is_on) [
      | inl is ↦ subst (IsSatisfiedBy g rules) (sym is) due
      | inr old ↦ sound n in_g old
    ]

    pub set_closed : ((n : ℕ) → n < g.nodes → IsDue rules wait_states n → (is_satisfied_at wait_states n ≡ true) ⊎ Contains (s ∷ pending) n)
        → (n : ℕ) → n < g.nodes → IsDue rules (set wait_states s v) n → (is_satisfied_at (set wait_states s v) n ≡ true) ⊎ Contains pending n
    set_closed closed n in_g is_due = elim (cases_eq n s) [
      | inl is ↦ inl (flag_there n is)
      | inr other ↦
          let same = kept_else wait_states s v n other in
          elim (closed n in_g (elim is_due [ inl given ↦ inl given | inr passing ↦ inr (passing.0, sym (ap (λ (k : WaitState). k.waiting) same) ∙ passing.1) ])) [
            | inl old ↦ inl (ap (λ (k : WaitState). k.satisfied) same ∙ old)
            | inr has ↦ elim (contains_cases s pending n has) [ inl is ↦ absurd (other (sym is)) | inr later ↦ inr later ]
          ]
    ]

    pub set_fewer : (n : ℕ) → unsatisfied_before g wait_states n ≡ unsatisfied_before g (set wait_states s v) n + edge_count g s n
    set_fewer n = unset_less g wait_states (set wait_states s v) s g.nodes n (omega (arith, lt, size)) off (flag_there s refl)
        (λ p other. sym (ap (λ (k : WaitState). k.satisfied) (kept_else wait_states s v p other)))

    pub set_within : ((n : ℕ) → Contains work n → n < g.nodes) → (n : ℕ) → Contains (work ++ s ∷ []) n → n < g.nodes
    set_within within n has = elim (Contains-push_cases work s n has) [
      | inl old ↦ within n old
      | inr here ↦ subst (λ m. m < g.nodes) here (omega (arith, lt, size))
    ]

  -- by its rule and its counter a node is satisfied, where all nodes that are satisfied are
  due_satisfied : IsGraph g → (wait_states : List WaitState) (s : ℕ) → ((n : ℕ) → n < g.nodes → is_satisfied_at wait_states n ≡ true → IsSatisfiedBy g rules n) → IsPassing rules s → unsatisfied_before g wait_states s ≡ 0 → IsSatisfiedBy g rules s
  due_satisfied graph wait_states s sound passing none = by_all_before passing (λ p e. let in_g = (graph.ends p s e).0 in sound p in_g (set_if_none g wait_states g.nodes s p none in_g e))

  -- the last that a passing node waited for is told: it is satisfied, and put to work
  pub released : IsGraph g → (wait_states : List WaitState) (work rest : List ℕ) (s : ℕ) (v : WaitState) → s < length wait_states → v.satisfied ≡ true → v.waiting ≡ 0 → waiting_at wait_states s ≡ 1
      → is_satisfied_at wait_states s ≡ false → IsPassing rules s → IsCascade g rules [] wait_states work (s ∷ rest) → IsCascade g rules [] (set wait_states s v) (work ++ s ∷ []) rest
  released graph wait_states work rest s v lt on zero_left one off passing h =
      let in_g : s < g.nodes = omega (arith, lt, h.size) in
      let none : unsatisfied_before g wait_states s ≡ 0 = omega (arith, h.counts s in_g, count_head s s rest refl, one) in
      let due = due_satisfied graph wait_states s h.sound passing none in
      record {
        size = length-set wait_states s v ∙ h.size;
        rules_size = h.rules_size;
        within = set_within [] wait_states work rest rest s v lt on off h.size due h.within;
        rest_within = λ n has. h.rest_within n (contains_later s rest n has);
        sound = set_sound [] wait_states work rest rest s v lt on off h.size due h.sound;
        closed = set_closed [] wait_states work rest rest s v lt on off h.size due (λ n at is_due. elim (h.closed n at is_due) [ inl old ↦ inl old | inr has ↦ absurd (contains_none n has) ]);
        counts = λ n at. let fewer = set_fewer [] wait_states work rest rest s v lt on off h.size due n in
            let push = owed_push g work s n in
            elim (cases_eq n s) [
              | inl is ↦ omega (arith, fewer, push, h.counts n at, ap (λ (k : WaitState). k.waiting) (kept_there wait_states s v n lt is), zero_left, one, ap (waiting_at wait_states) is, count_head s n rest (sym is))
              | inr other ↦ omega (arith, fewer, push, h.counts n at, ap (λ (k : WaitState). k.waiting) (kept_else wait_states s v n other), count_other s n rest (λ e. other (sym e)))
            ];
      }

  -- a node that was changed and is due is satisfied, and put to work
  pub started : IsGraph g → (pending : List ℕ) (wait_states : List WaitState) (work : List ℕ) (s : ℕ) (v : WaitState) → s < length wait_states → v.satisfied ≡ true → v.waiting ≡ waiting_at wait_states s
      → is_satisfied_at wait_states s ≡ false → IsDue rules wait_states s → IsCascade g rules (s ∷ pending) wait_states work [] → IsCascade g rules pending (set wait_states s v) (work ++ s ∷ []) []
  started graph pending wait_states work s v lt on same off is_due h =
      let in_g : s < g.nodes = omega (arith, lt, h.size) in
      let due : IsSatisfiedBy g rules s = elim is_due [
        | inl given ↦ by_given given
        | inr passing ↦ due_satisfied graph wait_states s h.sound passing.0 (omega (arith, h.counts s in_g, passing.1))
      ] in
      record {
        size = length-set wait_states s v ∙ h.size;
        rules_size = h.rules_size;
        within = set_within pending wait_states work [] [] s v lt on off h.size due h.within;
        rest_within = h.rest_within;
        sound = set_sound pending wait_states work [] [] s v lt on off h.size due h.sound;
        closed = set_closed pending wait_states work [] [] s v lt on off h.size due h.closed;
        counts = λ n at. let fewer = set_fewer pending wait_states work [] [] s v lt on off h.size due n in
            let push = owed_push g work s n in
            elim (cases_eq n s) [
              | inl is ↦ omega (arith, fewer, push, h.counts n at, ap (λ (k : WaitState). k.waiting) (kept_there wait_states s v n lt is), same, ap (waiting_at wait_states) is)
              | inr other ↦ omega (arith, fewer, push, h.counts n at, ap (λ (k : WaitState). k.waiting) (kept_else wait_states s v n other))
            ];
      }

  -- a node that was changed and isn't due, or is satisfied already, is passed over
  pub passed_over : (pending : List ℕ) (wait_states : List WaitState) (work : List ℕ) (s : ℕ) → (is_satisfied_at wait_states s ≡ true) ⊎ ¬ IsDue rules wait_states s
      → IsCascade g rules (s ∷ pending) wait_states work [] → IsCascade g rules pending wait_states work []
  passed_over pending wait_states work s why h = record {
    size = h.size;
    rules_size = h.rules_size;
    within = h.within;
    rest_within = h.rest_within;
    sound = h.sound;
    closed = λ n in_g due. elim (h.closed n in_g due) [
      | inl on ↦ inl on
      | inr has ↦ elim (contains_cases s pending n has) [
        | inl is ↦ elim why [
          | inl on ↦ inl (ap (is_satisfied_at wait_states) (sym is) ∙ on)
          | inr not ↦ absurd (not (subst (IsDue rules wait_states) (sym is) due))
        ]
        | inr later ↦ inr later
      ]
    ];
    counts = h.counts;
  }

  complete : IsGraph g → (wait_states : List WaitState) → IsCascade g rules [] wait_states [] [] → {n : ℕ} → IsSatisfiedBy g rules n → n < g.nodes → is_satisfied_at wait_states n ≡ true
  complete graph wait_states h {n} (by_given given) in_g = elim (h.closed n in_g (inl given)) [ inl on ↦ on | inr none ↦ absurd (contains_none n none) ]
  complete graph wait_states h {n} (by_all_before passing before) in_g =
      let none = none_if_set g wait_states g.nodes n (λ p lt e. complete graph wait_states h (before p e) lt) in
      elim (h.closed n in_g (inr (passing, omega (arith, h.counts n in_g, none)))) [ inl on ↦ on | inr here ↦ absurd (contains_none n here) ]

  -- with nothing left to do, the nodes that are satisfied are the least set, whatever the order in which they became so
  pub settled : IsGraph g → (wait_states : List WaitState) → IsCascade g rules [] wait_states [] [] → AreRight g rules wait_states
  settled graph wait_states h = record {
    size = h.size;
    rules_size = h.rules_size;
    satisfied = λ n in_g. (h.sound n in_g, λ is. complete graph wait_states h is in_g);
    counts = λ n in_g. omega (arith, h.counts n in_g);
  }
