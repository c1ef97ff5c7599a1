-- Where only marks and flags at some places change, the graph stays, and the rules of all other operations.
use Rattle.std.proofs.Common.{◌≡◌, inl, inr, refl, sym, ap, ap₂, subst, ◌∙◌, arith, ℕ, suc, ◌<◌, Bool, true, false, cond, List, [], ◌∷◌, length, slice_get, Some, option_map, Contains, All}
use Rattle.std.proofs.lemmas.List.{get_or_past, length-map}
use Rattle.std.proofs.lemmas.List.Elements.{All-contains}
use Rattle.std.proofs.lemmas.Option.{slice_get_cases}
use Rattle.std.specs.FinMap.{entries, find, get-entries}
use Rattle.std.specs.Map.{keys_of}
use Rattle.std.specs.Ordering.{eq_by_cmp}
use Rattle.plan_model.specs.operation_graph.specs.Graphs.{Digraph}
use Rattle.plan_basics.specs.Keys.{Name, name_cmp}
use Rattle.plan_basics.specs.declared.keys.OpKey.{OpKey}
use Rattle.workstations.specs.Timetables.{NamedWorkstation}
use Rattle.workstations.specs.Workstations.{Workstation}
use Rattle.start_choice.specs.satisfaction.specs.declared.nodes.WaitState.{WaitState}
use Rattle.start_choice.specs.satisfaction.specs.declared.nodes.Rule.{Rule}
use Rattle.start_choice.specs.satisfaction.specs.Changes.{IsRerun, IsUpward}
use Rattle.start_choice.specs.satisfaction.specs.Counters.{AreRight, no_rule, rule_at}
use Rattle.plan_model.specs.Contents.{Contents, Operation, Pairs, attribute_at}
use Rattle.start_choice.specs.plan_drafts.specs.PlanGraphs.{IsGraphFor, IsGraphOf}
use Rattle.plan_model.specs.Moves.{IsMovedAt, reporting}
use Rattle.start_choice.specs.plan_status.proofs.RowKeys.{key_of_row, row_of_key}
use Rattle.derived_figures.proofs.Right.{as_many, kept_there, right_from_kept, stands_there}
use Rattle.start_choice.specs.counted_records.proofs.RowRules.{is_given, rule_there, rules_size}
use Rattle.derived_figures.specs.WaitingChanges.{IsRisen, IsTakenBack}
use Rattle.derived_figures.specs.WaitStates.{AreWaitStates}
use Rattle.start_choice.specs.counted_records.specs.Rules.{rule_in, rule_on, rules_of}

-- lists with the same element at each index are the same
same_lists : {X : Type 0} (xs ys : List X) → length xs ≡ length ys → ((i : ℕ) (x : X) → slice_get xs i ≡ Some x → slice_get ys i ≡ Some x) → xs ≡ ys
same_lists [] [] size same = refl
same_lists [] (y ∷ ys) size same = absurd (omega (arith, size))
same_lists (x ∷ xs) [] size same = absurd (omega (arith, size))
same_lists (x ∷ xs) (y ∷ ys) size same =
    let first : y ≡ x = let e = same 0 x refl in cc in
    ap₂ (λ z zs. z ∷ zs) (sym first) (same_lists xs ys (omega (arith, size)) (λ i z at. same (suc i) z at))

-- how a workstation reports is found among the names
attribute_found : (w : Name) (ws : List NamedWorkstation) → option_map (λ (s : Workstation). s.attribute) (find name_cmp w ws) ≡ find name_cmp w (reporting ws)
attribute_found w [] = refl
attribute_found w (row ∷ ws) = by_test (eq_by_cmp name_cmp w row.0) (attribute_found w ws)
  where
    by_test : (b : Bool) → option_map (λ (s : Workstation). s.attribute) (find name_cmp w ws) ≡ find name_cmp w (reporting ws)
        → option_map (λ (s : Workstation). s.attribute) (cond b (Some row.1) (find name_cmp w ws)) ≡ cond b (Some row.1.attribute) (find name_cmp w (reporting ws))
    by_test true later = refl
    by_test false later = later

pub attribute_by : (P : Contents) (w : Name) → attribute_at P w ≡ find name_cmp w (reporting (entries P.workstations))
attribute_by P w = ap (option_map (λ (s : Workstation). s.attribute)) (get-entries P.workstations w) ∙ attribute_found w (entries P.workstations)

module _ (P Q : Contents) (places : List ℕ) (moved : IsMovedAt P Q places) where
  same_attribute : (w : Name) → attribute_at Q w ≡ attribute_at P w
  same_attribute w = attribute_by Q w ∙ ap (find name_cmp w) moved.workstations ∙ sym (attribute_by P w)

  -- the keys stay, and with them the graph
  same_keys : keys_of (entries Q.operations) ≡ keys_of (entries P.operations)
  same_keys = same_lists (keys_of (entries Q.operations)) (keys_of (entries P.operations)) size (λ i o at.
      let row = row_of_key (entries Q.operations) i o at in
      let was = moved.rows i o row.0 row.1 in
      key_of_row (entries P.operations) i o was.before was.was)
    where
      size : length (keys_of (entries Q.operations)) ≡ length (keys_of (entries P.operations))
      size = length-map (entries Q.operations) (λ (row : OpKey × Operation). row.0) ∙ moved.size ∙ sym (length-map (entries P.operations) (λ (row : OpKey × Operation). row.0))

  graph_before : (g : Digraph) → IsGraphFor Q g → IsGraphFor P g
  graph_before g graph = subst (λ ks. IsGraphOf ks P.pairs g) same_keys (subst (λ (ps : Pairs). IsGraphOf (keys_of (entries Q.operations)) ps g) moved.pairs graph)

  -- elsewhere each rule stays
  pub same_rule : (i : ℕ) → ¬ Contains places i → rule_at (rules_of Q) i ≡ rule_at (rules_of P) i
  same_rule i out = elim (slice_get_cases (entries Q.operations) i).1 [
    | inl here ↦
        let o = here.0.0 in
        let op = here.0.1 in
        let row = moved.rows i o op here.2 in
        rule_there Q i o op here.2
        ∙ ap (λ a. rule_on a op) (same_attribute op.workstation)
        ∙ ap (rule_in P) (row.elsewhere out)
        ∙ sym (rule_there P i o row.before row.was)
    | inr past ↦
        let le = past.0 in
        get_or_past (rules_of Q) i no_rule (omega (arith, le, rules_size Q)) ∙ sym (get_or_past (rules_of P) i no_rule (omega (arith, le, rules_size P, moved.size)))
  ]

  same_size : length (rules_of Q) ≡ length (rules_of P)
  same_size = rules_size Q ∙ moved.size ∙ sym (rules_size P)

module _ (P Q : Contents) (g : Digraph) (graph : IsGraphFor Q g) (wait_states : List WaitState) (places : List ℕ) where
  right_before : IsMovedAt P Q places → AreWaitStates P wait_states → AreRight g (rules_of P) wait_states
  right_before moved right = right_from_kept P g (graph_before P Q places moved g graph) wait_states right

  -- the places of what is kept are nodes
  nodes_at : IsMovedAt P Q places → length wait_states ≡ length (entries P.operations) → All (λ i. i < length wait_states) places → All (λ n. n < g.nodes) places
  nodes_at moved size within i d lt = let h = within i d lt in omega (arith, h, size, as_many P g (graph_before P Q places moved g graph))

  -- what is kept is right by the rules before, which became those that are
  pub upward : IsRisen P Q wait_states places → (before : List Rule) × AreRight g before wait_states × IsUpward g before wait_states places (rules_of Q)
  upward risen = (
    rules_of P,
    right_before risen.moved risen.right,
    record {
      size = same_size P Q places risen.moved;
      nodes = nodes_at risen.moved risen.right.size risen.within;
      others = same_rule P Q places risen.moved;
      given = λ n has on.
          let lt = All-contains (λ i. i < length wait_states) places n risen.within has in
          elim (risen.unsatisfied n has) [
            | inl never ↦
                let row = stands_there P g (graph_before P Q places risen.moved g graph) n (omega (arith, lt, risen.right.size)) in
                absurd (never (row.0, row.1, row.2, (kept_there P wait_states risen.right n row.0 row.1 row.2).0.0 on))
            | inr dead ↦ is_given Q n dead.0 dead.1 dead.2 (inr dead.3)
          ];
    },
  )

  pub taken_back : IsTakenBack P Q g wait_states places → (before : List Rule) × AreRight g before wait_states × IsRerun g before places (rules_of Q)
  taken_back back = (
    rules_of P,
    right_before back.moved back.right,
    record {
      size = same_size P Q places back.moved;
      nodes = nodes_at back.moved back.right.size back.within;
      others = same_rule P Q places back.moved;
      follow = λ p n has edge. elim (back.follow p n has edge) [
        | inl there ↦ inl there
        | inr dead ↦ inr (is_given P n dead.0 dead.1 dead.2 (inr dead.3))
      ];
    },
  )
