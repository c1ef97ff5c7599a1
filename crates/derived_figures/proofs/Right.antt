-- What is kept of a plan's operations is right by their rules just where it is what the plan says.
use Rattle.std.proofs.Common.{◌≡◌, ◌↔◌, inl, inr, sym, ap, subst, ◌∙◌, true≢false, arith, ℕ, zero, suc, ◌+◌, ◌<◌, ◌≤◌, true, cond, List, length, slice_get, Some, Result, Ok, Err, OnOk}
use Rattle.std.proofs.lemmas.Bool.{cases_Bool}
use Rattle.std.proofs.lemmas.List.{length-map}
use Rattle.std.proofs.lemmas.Option.{get_or_from_slice_get, same_Some, slice_get-get_or, slice_get_cases, slice_get_within}
use Rattle.std.specs.FinMap.{entries, get}
use Rattle.std.specs.FinSet.{contains}
use Rattle.plan_model.specs.operation_graph.specs.Graphs.{Digraph, HasEdge}
use Rattle.plan_basics.specs.Keys.{operation_cmp, operation_cmp_total, operation_cmp-IsAntisymmetric}
use Rattle.plan_basics.specs.declared.keys.OpKey.{OpKey}
use Rattle.status_rules.proofs.Live.{live_mark}
use Rattle.status_rules.specs.Classes.{is_live}
use Rattle.status_rules.specs.LeastSet.{by_all_before, by_given}
use Rattle.start_choice.specs.satisfaction.proofs.Counting.{edge_is_one, no_edge_is_none}
use Rattle.start_choice.specs.satisfaction.specs.declared.nodes.WaitState.{WaitState}
use Rattle.start_choice.specs.satisfaction.specs.Counters.{AreRight, IsSatisfiedBy, edge_count, is_satisfied_at, wait_state_at, no_wait_state, unsatisfied_before, unsatisfied_below}
use Rattle.plan_model.proofs.Entries.{entries_are, entries_in_order}
use Rattle.plan_model.specs.Contents.{Contents, IsLive, LivePredecessor, Operation, Precedes}
use Rattle.plan_model.specs.Status.{IsSatisfied}
use Rattle.start_choice.specs.plan_drafts.specs.PlanGraphs.{IsGraphFor}
use Rattle.start_choice.specs.plan_laws.proofs.Waiting.{one_count}
use Rattle.start_choice.specs.plan_records.specs.Rows.{IsWaitingFor}
use Rattle.start_choice.specs.plan_status.proofs.LoadedRows.{row_found, row_of}
use Rattle.start_choice.specs.plan_status.proofs.RowKeys.{key_of_row, row_of_key}
use Rattle.start_choice.specs.plan_status.proofs.SoMany.{IsSoMany, all_counted, none_before, one_more_row}
use Rattle.start_choice.specs.plan_status.specs.OneMore.{RisesIf}
use Rattle.start_choice.specs.counted_records.proofs.RowRules.{dead_mark, given_there, is_given, passing_there, rules_size, there_given, there_passing}
use Rattle.derived_figures.specs.WaitStates.{AreWaitStates, IsKept}
use Rattle.start_choice.specs.counted_records.specs.Rules.{rules_of}

-- an operation and its row stand at this place
abbrev pub StandsAt : Contents → ℕ → OpKey → Operation → Type 0
StandsAt P i o op = slice_get (entries P.operations) i ≡ Some (o, op)

-- what is kept at an operation's place
pub kept_there : (P : Contents) (wait_states : List WaitState) → AreWaitStates P wait_states → (i : ℕ) (o : OpKey) (op : Operation) → StandsAt P i o op → IsKept P o (wait_state_at wait_states i)
kept_there P wait_states are i o op at = are.each i o op (wait_state_at wait_states i) at (slice_get-get_or wait_states i no_wait_state (let within = slice_get_within (entries P.operations) i (o, op) at in omega (arith, within, are.size)))

module _ (P : Contents) (g : Digraph) (graph : IsGraphFor P g) where
  abbrev rows : List (OpKey × Operation)
  rows = entries P.operations

  pub as_many : g.nodes ≡ length rows
  as_many = graph.nodes ∙ length-map rows (λ (row : OpKey × Operation). row.0)

  pub is_node : (i : ℕ) (o : OpKey) (op : Operation) → StandsAt P i o op → i < g.nodes
  is_node i o op at = let within = slice_get_within rows i (o, op) at in omega (arith, within, as_many)

  -- at each node stands an operation
  pub stands_there : (i : ℕ) → i < length rows → (o : OpKey) × (op : Operation) × StandsAt P i o op
  stands_there i lt = elim (slice_get_cases rows i).1 [
    | inl here ↦ (here.0.0, here.0.1, here.2)
    | inr past ↦ absurd (let p = past.0 in omega (arith, p, lt))
  ]

  -- ---- edges are pairs

  edge_there : (i j : ℕ) (p o : OpKey) (x y : Operation) → StandsAt P i p x → StandsAt P j o y → Precedes P p o → HasEdge g i j
  edge_there i j p o x y at_i at_j pair = (graph.edges i j).1 (p, o, key_of_row rows i p x at_i, key_of_row rows j o y at_j, pair)

  pair_there : (i j : ℕ) (p o : OpKey) (x y : Operation) → StandsAt P i p x → StandsAt P j o y → HasEdge g i j → Precedes P p o
  pair_there i j p o x y at_i at_j edge =
      let ends = (graph.edges i j).0 edge in
      let first : ends.0 ≡ p = same_Some ends.0 p (sym ends.2 ∙ key_of_row rows i p x at_i) in
      let second : ends.1 ≡ o = same_Some ends.1 o (sym ends.3 ∙ key_of_row rows j o y at_j) in
      subst (λ k. Precedes P k o) first (subst (λ k. Precedes P ends.0 k) second ends.4)

  -- where an edge begins stands an operation
  begins_there : (i j : ℕ) → HasEdge g i j → (p : OpKey) × (x : Operation) × StandsAt P i p x
  begins_there i j edge =
      let ends = (graph.edges i j).0 edge in
      let row = row_of_key rows i ends.0 ends.2 in
      (ends.0, row.0, row.1)

  -- ---- the least set by rules is that of the plan

  pub node_satisfied : {i : ℕ} → IsSatisfiedBy g (rules_of P) i → (o : OpKey) (op : Operation) → StandsAt P i o op → IsSatisfied P o
  node_satisfied {i} (by_given given) o op at = by_given (given_there P i o op at given)
  node_satisfied {i} (by_all_before passing before) o op at = by_all_before (passing_there P i o op at passing) (λ p live.
      let row = row_of P p live.1.0 live.1.1 in
      node_satisfied (before row.0 (edge_there row.0 i p o live.1.0 op row.1 at live.0)) p live.1.0 row.1)

  pub satisfied_node : {o : OpKey} → IsSatisfied P o → (i : ℕ) (op : Operation) → StandsAt P i o op → IsSatisfiedBy g (rules_of P) i
  satisfied_node {o} (by_given given) i op at = by_given (there_given P i o op at given)
  satisfied_node {o} (by_all_before passing before) i op at = by_all_before (there_passing P i o op at passing) (λ j edge.
      let row = begins_there j i edge in
      elim (cases_Bool (is_live row.1.mark)) [
        | inl live ↦ satisfied_node (before row.0 (pair_there j i row.0 o row.1 op row.2 at edge, (row.1, row_found P j row.0 row.1 row.2, live_mark row.1.mark live))) j row.1 row.2
        | inr dead ↦ by_given (is_given P j row.0 row.1 row.2 (inr (dead_mark row.1.mark dead)))
      ])

  -- what isn't satisfied isn't deleted
  waits_live : (o : OpKey) (op : Operation) → get P.operations o ≡ Some op → ¬ IsSatisfied P o → IsLive P o
  waits_live o op is never = (op, is, λ deleted. never (by_given (op, is, inr deleted)))

  -- ---- how many aren't satisfied

  module _ (wait_states : List WaitState) (flags : (i : ℕ) (o : OpKey) (op : Operation) → StandsAt P i o op → (is_satisfied_at wait_states i ≡ true) ↔ IsSatisfied P o)
      (n : ℕ) (o : OpKey) (op : Operation) (at : StandsAt P n o op) where
    abbrev Waits : OpKey → Type 0
    Waits p = LivePredecessor P p o × ¬ IsSatisfied P p

    abbrev below : ℕ → ℕ
    below m = unsatisfied_below g wait_states m n

    counts_one : (m : ℕ) (p : OpKey) (x : Operation) → StandsAt P m p x → RisesIf (Waits p) (below m) (below (suc m))
    counts_one m p x at_m = elim (cases_Bool (is_satisfied_at wait_states m)) [
      | inl on ↦
          let none : cond {A = ℕ} (is_satisfied_at wait_states m) 0 (edge_count g m n) ≡ 0 = ap (λ f. cond {A = ℕ} f 0 (edge_count g m n)) on in
          inr (λ waits. waits.1 ((flags m p x at_m).0 on), omega (arith, none))
      | inr off ↦
          let count : cond {A = ℕ} (is_satisfied_at wait_states m) 0 (edge_count g m n) ≡ edge_count g m n = ap (λ f. cond {A = ℕ} f 0 (edge_count g m n)) off in
          let never : ¬ IsSatisfied P p = λ s. true≢false (sym ((flags m p x at_m).1 s) ∙ off) in
          elim (cases_Bool (contains g.edges (m, n))) [
            | inl edge ↦
                let live = waits_live p x (row_found P m p x at_m) never in
                inl (((pair_there m n p o x op at_m at edge, live), never), omega (arith, count, edge_is_one g m n edge))
            | inr none ↦ inr (λ waits. true≢false (sym (edge_there m n p o x op at_m at waits.0.0) ∙ none), omega (arith, count, no_edge_is_none g m n none))
          ]
    ]

    counted : (m : ℕ) → m ≤ length rows → IsSoMany rows m Waits (below m)
    counted zero le = none_before rows Waits
    counted (suc m) le =
        let row = stands_there m (omega (arith, le)) in
        subst (λ k. IsSoMany rows k Waits (below (suc m))) (more m)
        (one_more_row rows Waits (entries_in_order operation_cmp P.operations) m row.0 row.1 row.2 (below m) (counted m (omega (arith, le))) (below (suc m)) (counts_one m row.0 row.1 row.2))
      where
        more : (m : ℕ) → m + 1 ≡ suc m
        more m = omega arith

    pub waits_for : IsWaitingFor P o (unsatisfied_before g wait_states n)
    waits_for = all_counted rows Waits
        (λ p waits. (waits.0.1.0, ap (λ m. get m p) (entries_are operation_cmp operation_cmp_total operation_cmp-IsAntisymmetric P.operations) ∙ waits.0.1.1))
        g.nodes (unsatisfied_before g wait_states n) as_many (counted g.nodes (omega (arith, as_many)))

  -- ---- both ways

  pub right_from_kept : (wait_states : List WaitState) → AreWaitStates P wait_states → AreRight g (rules_of P) wait_states
  right_from_kept wait_states are = record {
    size = are.size ∙ sym as_many;
    rules_size = rules_size P ∙ sym as_many;
    satisfied = λ n lt.
        let row = stands_there n (omega (arith, lt, as_many)) in
        let is = kept_there P wait_states are n row.0 row.1 row.2 in
        (λ on. satisfied_node (is.0.0 on) n row.1 row.2, λ s. is.0.1 (node_satisfied s row.0 row.1 row.2));
    counts = λ n lt.
        let row = stands_there n (omega (arith, lt, as_many)) in
        one_count _ _ _ (kept_there P wait_states are n row.0 row.1 row.2).1 (waits_for wait_states (λ i o op at. (kept_there P wait_states are i o op at).0) n row.0 row.1 row.2);
  }

  pub kept_from_right : (wait_states : List WaitState) → AreRight g (rules_of P) wait_states → AreWaitStates P wait_states
  kept_from_right wait_states right = record {
    size = right.size ∙ as_many;
    each = λ i o op k at is.
        subst (IsKept P o) (get_or_from_slice_get wait_states i k no_wait_state is)
        (flags i o op at, subst (IsWaitingFor P o) (sym (right.counts i (is_node i o op at))) (waits_for wait_states flags i o op at));
  }
    where
      flags : (i : ℕ) (o : OpKey) (op : Operation) → StandsAt P i o op → (is_satisfied_at wait_states i ≡ true) ↔ IsSatisfied P o
      flags i o op at =
          let is = right.satisfied i (is_node i o op at) in
          (λ on. node_satisfied (is.0 on) o op at, λ s. is.1 (satisfied_node s i op at))

  pub kept_on_ok : {T E : Type 0} (r : Result T E) (wait_states : List WaitState) → OnOk r (AreRight g (rules_of P) wait_states) → OnOk r (AreWaitStates P wait_states)
  kept_on_ok (Ok x) wait_states right = kept_from_right wait_states right
  kept_on_ok (Err e) wait_states right = tt
