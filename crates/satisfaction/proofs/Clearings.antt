-- What a rerun takes back, step by step, and what is left to settle after it.
use Rattle.std.proofs.Common.{◌≡◌, ◌≢◌, ◌↔◌, ◌⊎◌, inl, inr, refl, sym, ap, subst, ◌∙◌, true≢false, arith, ℕ, ◌+◌, ◌<◌, ◌≤◌, true, false, List, [], ◌∷◌, length, set, Contains, length-set}
use Rattle.std.proofs.lemmas.Bool.{cases_eq, cases_Bool}
use Rattle.std.specs.FinSet.{contains}
use Rattle.operation_graph.specs.Adjacency.{count_of}
use Rattle.operation_graph.specs.Graphs.{Digraph, HasEdge, AreExactly, IsGraph}
use Rattle.operation_graph.proofs.Counts.{count_head, count_other, contains_counted, counted_contains}
use Rattle.plan_basics.proofs.Members.{contains_cases, contains_head, contains_later, contains_none}
use Rattle.status_rules.specs.LeastSet.{by_given, by_all_before}
use Rattle.satisfaction.specs.declared.nodes.WaitState.{WaitState}
use Rattle.satisfaction.specs.declared.nodes.Rule.{Rule}
use Rattle.satisfaction.specs.Counters.{AreRight, IsCascade, IsSatisfiedBy, edge_count, is_satisfied_at, wait_state_at, rule_at, waiting_at, waiting_count}
use Rattle.satisfaction.specs.Changes.{HoldFollowers, IsClearing, IsRerun, IsUpward}
use Rattle.satisfaction.proofs.Counting.{fewer_waiting, free_is_none, none_if_set, no_edge_is_none, satisfied_is_none, unset_same_but, waiting_alike, kept_there, kept_else, unset_same, unset_less, unset_at_most, set_if_none, listed_is_one}

module _ (g : Digraph) (start : List WaitState) where
  pub begun : (rules : List Rule) → AreRight g rules start → IsClearing g start [] start []
  begun rules h = record {
    size = h.size;
    within = λ n has. absurd (contains_none n has);
    cleared = λ n has. absurd (contains_none n has);
    others = λ n not. refl;
    counts = λ n lt. omega (arith, h.counts n lt);
  }

  -- a counter is below the number of nodes, while it lacks something
  pub below : (gone : List ℕ) (wait_states : List WaitState) (rest : List ℕ) (s : ℕ) → IsClearing g start gone wait_states (s ∷ rest) → waiting_at wait_states s < length wait_states
  below gone wait_states rest s h =
      let in_g = h.within s (contains_head s rest) in
      omega (arith, h.size, h.counts s in_g, count_head s s rest refl, unset_at_most g wait_states g.nodes s)

  -- a counter rises
  pub raised : (gone : List ℕ) (wait_states : List WaitState) (rest : List ℕ) (s : ℕ) (v : WaitState) → s < length wait_states → v.satisfied ≡ is_satisfied_at wait_states s → v.waiting ≡ waiting_at wait_states s + 1
      → IsClearing g start gone wait_states (s ∷ rest) → IsClearing g start gone (set wait_states s v) rest
  raised gone wait_states rest s v lt same more h =
      let flags : (p : ℕ) → is_satisfied_at (set wait_states s v) p ≡ is_satisfied_at wait_states p = λ p. elim (cases_eq p s) [
        | inl is ↦ ap (λ (k : WaitState). k.satisfied) (kept_there wait_states s v p lt is) ∙ same ∙ ap (is_satisfied_at wait_states) (sym is)
        | inr other ↦ ap (λ (k : WaitState). k.satisfied) (kept_else wait_states s v p other)
      ] in
      record {
        size = length-set wait_states s v ∙ h.size;
        within = λ n has. h.within n (contains_later s rest n has);
        cleared = λ n has. flags n ∙ h.cleared n has;
        others = λ n not. flags n ∙ h.others n not;
        counts = λ n in_g.
            let unset = unset_same g (set wait_states s v) wait_states g.nodes n (λ p below. flags p) in
            elim (cases_eq n s) [
              | inl is ↦ omega (arith, unset, h.counts n in_g, ap (λ (k : WaitState). k.waiting) (kept_there wait_states s v n lt is), more, ap (waiting_at wait_states) is, count_head s n rest (sym is))
              | inr other ↦ omega (arith, unset, h.counts n in_g, ap (λ (k : WaitState). k.waiting) (kept_else wait_states s v n other), count_other s n rest (λ e. other (sym e)))
            ];
      }

  -- a node isn't satisfied any more: its successors are still to be told
  pub unset : IsGraph g → (gone : List ℕ) (wait_states : List WaitState) (s : ℕ) (v : WaitState) (xs : List ℕ) → s < length wait_states → v.satisfied ≡ false → v.waiting ≡ waiting_at wait_states s
      → is_satisfied_at wait_states s ≡ true → AreExactly (HasEdge g s) xs → IsClearing g start gone wait_states [] → IsClearing g start (s ∷ gone) (set wait_states s v) xs
  unset graph gone wait_states s v xs lt off same on exact h =
      let there : (n : ℕ) → n ≡ s → is_satisfied_at (set wait_states s v) n ≡ false = λ n is. ap (λ (k : WaitState). k.satisfied) (kept_there wait_states s v n lt is) ∙ off in
      let else : (n : ℕ) → n ≢ s → is_satisfied_at (set wait_states s v) n ≡ is_satisfied_at wait_states n = λ n other. ap (λ (k : WaitState). k.satisfied) (kept_else wait_states s v n other) in
      record {
        size = length-set wait_states s v ∙ h.size;
        within = λ n has. (graph.ends s n ((exact.1 n).0 has)).1;
        cleared = λ n has. elim (cases_eq n s) [
          | inl is ↦ there n is
          | inr other ↦ elim (contains_cases s gone n has) [ inl is ↦ absurd (other (sym is)) | inr later ↦ else n other ∙ h.cleared n later ]
        ];
        others = λ n not. elim (cases_eq n s) [
          | inl is ↦ absurd (not (subst (Contains (s ∷ gone)) (sym is) (contains_head s gone)))
          | inr other ↦ else n other ∙ h.others n (λ has. not (contains_later s gone n has))
        ];
        counts = λ n in_g.
            let more = unset_less g (set wait_states s v) wait_states s g.nodes n (omega (arith, lt, h.size)) (there s refl) on else in
            let told = listed_is_one g s xs exact n in
            elim (cases_eq n s) [
              | inl is ↦ omega (arith, more, told, h.counts n in_g, ap (λ (k : WaitState). k.waiting) (kept_there wait_states s v n lt is), same, ap (waiting_at wait_states) is)
              | inr other ↦ omega (arith, more, told, h.counts n in_g, ap (λ (k : WaitState). k.waiting) (kept_else wait_states s v n other))
            ];
      }

  -- a node that isn't satisfied needs nothing
  pub unset_already : (gone : List ℕ) (wait_states : List WaitState) (s : ℕ) → is_satisfied_at wait_states s ≡ false → IsClearing g start gone wait_states [] → IsClearing g start (s ∷ gone) wait_states []
  unset_already gone wait_states s off h = record {
    size = h.size;
    within = h.within;
    cleared = λ n has. elim (contains_cases s gone n has) [ inl is ↦ ap (is_satisfied_at wait_states) (sym is) ∙ off | inr later ↦ h.cleared n later ];
    others = λ n not. h.others n (λ has. not (contains_later s gone n has));
    counts = h.counts;
  }

pub member_or_not : (xs : List ℕ) (n : ℕ) → Contains xs n ⊎ ¬ Contains xs n
member_or_not xs n = elim (cases_eq (count_of n xs) 0) [
  | inl none ↦ inr (λ has. omega (arith, none, contains_counted n xs has))
  | inr some ↦ inl (counted_contains n xs (omega (arith, some)))
]

module _ (g : Digraph) (before after : List Rule) (reached : List ℕ) (h : IsRerun g before reached after) where
  -- what isn't reached stays satisfied
  stays : {n : ℕ} → IsSatisfiedBy g before n → ¬ Contains reached n → IsSatisfiedBy g after n
  stays {n} (by_given given) out = by_given (ap (λ (r : Rule). r.given) (h.others n out) ∙ given)
  stays {n} (by_all_before passing earlier) out = elim (cases_Bool (rule_at before n).given) [
    | inl given ↦ by_given (ap (λ (r : Rule). r.given) (h.others n out) ∙ given)
    | inr free ↦ by_all_before (ap (λ (r : Rule). r.passing) (h.others n out) ∙ passing)
        (λ p e. stays (earlier p e) (λ in_reached. elim (h.follow p n in_reached e) [ inl has ↦ out has | inr given ↦ true≢false (sym given ∙ free) ]))
  ]

  -- once all that is reached is cleared, only that is left to take up
  pub to_settle : IsGraph g → (start wait_states : List WaitState) (gone : List ℕ) → AreRight g before start → ((n : ℕ) → Contains gone n ↔ Contains reached n) → IsClearing g start gone wait_states []
      → IsCascade g after reached wait_states [] []
  to_settle graph start wait_states gone right all c = record {
    size = c.size;
    rules_size = h.size ∙ right.rules_size;
    within = λ n has. absurd (contains_none n has);
    rest_within = c.within;
    sound = λ n in_g on.
        let out : ¬ Contains reached n = λ has. true≢false (sym on ∙ c.cleared n ((all n).1 has)) in
        stays ((right.satisfied n in_g).0 (sym (c.others n (λ has. out ((all n).0 has))) ∙ on)) out;
    closed = λ n in_g due. elim (member_or_not reached n) [
      | inl has ↦ inr has
      | inr out ↦
          let as_before : is_satisfied_at wait_states n ≡ is_satisfied_at start n = c.others n (λ has. out ((all n).0 has)) in
          let satisfied : IsSatisfiedBy g before n = elim due [
            | inl given ↦ by_given (ap (λ (r : Rule). r.given) (sym (h.others n out)) ∙ given)
            | inr passing ↦ by_all_before (ap (λ (r : Rule). r.passing) (sym (h.others n out)) ∙ passing.0) (λ p e.
                let p_in = (graph.ends p n e).0 in
                let on = set_if_none g wait_states g.nodes n p (omega (arith, c.counts n in_g, passing.1)) p_in e in
                let p_out : ¬ Contains gone p = λ has. true≢false (sym on ∙ c.cleared p has) in
                (right.satisfied p p_in).0 (sym (c.others p p_out) ∙ on))
          ] in
          inl (as_before ∙ (right.satisfied n in_g).1 satisfied)
    ];
    counts = λ n in_g. omega (arith, c.counts n in_g);
  }

  -- an edge from what is cleared leads to no node that wasn't satisfied and isn't reached
  leads_nowhere : (start : List WaitState) → AreRight g before start → (p n : ℕ) → n < g.nodes → Contains reached p → ¬ Contains reached n → is_satisfied_at start n ≡ false → edge_count g p n ≡ 0
  leads_nowhere start right p n in_g has out off = elim (cases_Bool (contains g.edges (p, n))) [
    | inl edge ↦ elim (h.follow p n has edge) [
      | inl in_reached ↦ absurd (out in_reached)
      | inr given ↦ absurd (true≢false (sym ((right.satisfied n in_g).1 (by_given given)) ∙ off))
    ]
    | inr none ↦ no_edge_is_none g p n none
  ]

  -- once all that is reached is cleared, no other node has come to wait than what is reached and has a predecessor
  pub waiting_cleared : (start wait_states : List WaitState) (gone followers : List ℕ) → AreRight g before start → ((n : ℕ) → Contains gone n ↔ Contains reached n) → IsClearing g start gone wait_states []
      → HoldFollowers g reached followers → waiting_count wait_states ≤ waiting_count start + length followers
  waiting_cleared start wait_states gone followers right all c hold = fewer_waiting wait_states start followers (c.size ∙ sym right.size) (λ n lt out.
      let in_g : n < g.nodes = omega (arith, lt, c.size) in
      elim (member_or_not reached n) [
        | inl has ↦
            let none = none_if_set g wait_states g.nodes n (λ p below edge. absurd (out (hold n p has edge))) in
            omega (arith, free_is_none (wait_state_at wait_states n) (omega (arith, c.counts n in_g, none)))
        | inr away ↦
            let flag : is_satisfied_at wait_states n ≡ is_satisfied_at start n = c.others n (λ has. away ((all n).0 has)) in
            elim (cases_Bool (is_satisfied_at start n)) [
              | inl on ↦ omega (arith, satisfied_is_none (wait_state_at wait_states n) (flag ∙ on))
              | inr off ↦
                  let before_it = unset_same_but g wait_states start g.nodes n (λ p below. elim (member_or_not gone p) [
                    | inl has ↦ inr (leads_nowhere start right p n in_g ((all p).0 has) away off)
                    | inr not ↦ inl (c.others p not)
                  ]) in
                  let counter : waiting_at wait_states n ≡ waiting_at start n = omega (arith, c.counts n in_g, right.counts n in_g, before_it) in
                  omega (arith, waiting_alike (wait_state_at wait_states n) (wait_state_at start n) flag counter)
            ]
      ])

-- ---- a change by which none stops being satisfied

module _ (g : Digraph) (before after : List Rule) (wait_states : List WaitState) (changed : List ℕ) (graph : IsGraph g) (right : AreRight g before wait_states) (h : IsUpward g before wait_states changed after) where
  rises : {n : ℕ} → IsSatisfiedBy g before n → n < g.nodes → IsSatisfiedBy g after n
  rises {n} (by_given given) in_g = elim (member_or_not changed n) [
    | inl has ↦ by_given (h.given n has ((right.satisfied n in_g).1 (by_given given)))
    | inr out ↦ by_given (ap (λ (r : Rule). r.given) (h.others n out) ∙ given)
  ]
  rises {n} (by_all_before passing earlier) in_g = elim (member_or_not changed n) [
    | inl has ↦ by_given (h.given n has ((right.satisfied n in_g).1 (by_all_before passing earlier)))
    | inr out ↦ by_all_before (ap (λ (r : Rule). r.passing) (h.others n out) ∙ passing) (λ p e. rises (earlier p e) (graph.ends p n e).0)
  ]

  pub upward : IsCascade g after changed wait_states [] []
  upward = record {
    size = right.size;
    rules_size = h.size ∙ right.rules_size;
    within = λ n has. absurd (contains_none n has);
    rest_within = λ n has. absurd (contains_none n has);
    sound = λ n in_g on. rises ((right.satisfied n in_g).0 on) in_g;
    closed = λ n in_g due. elim (member_or_not changed n) [
      | inl has ↦ inr has
      | inr out ↦
          let satisfied : IsSatisfiedBy g before n = elim due [
            | inl given ↦ by_given (ap (λ (r : Rule). r.given) (sym (h.others n out)) ∙ given)
            | inr passing ↦ by_all_before (ap (λ (r : Rule). r.passing) (sym (h.others n out)) ∙ passing.0) (λ p e.
                let p_in = (graph.ends p n e).0 in
                (right.satisfied p p_in).0 (set_if_none g wait_states g.nodes n p (omega (arith, right.counts n in_g, passing.1)) p_in e))
          ] in
          inl ((right.satisfied n in_g).1 satisfied)
    ];
    counts = λ n in_g. omega (arith, right.counts n in_g);
  }
