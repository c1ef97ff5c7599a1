use Rattle.std.proofs.Common.{◌≡◌, ℕ, Contains, inl, inr, sym, ap, ◌+◌, ◌∷◌, refl, subst, arith, drop, get_or}
use Rattle.std.proofs.lemmas.List.{drop_all, drop_more}
use Rattle.std.proofs.lemmas.List.Elements.{Contains-get_or, Contains-push_cases}
use Rattle.operation_graph.specs.Graphs.{HasEdge}
use Rattle.satisfaction.specs.Counters.{wait_state_at}
use Rattle.satisfaction.specs.declared.nodes.WaitState.{WaitState}
use Rattle.plan_basics.proofs.Members.{contains_head}
use Rattle.satisfaction.specs.Changes.{IsClearing}
use Rattle.satisfaction.proofs.Clearings.{below, raised, unset, unset_already}
use Rattle.satisfaction.proofs.Journals.{journaled_on}
use Rattle.satisfaction.proofs.clearing.clear.Goals as goal

pub loop-succ-init : goal.loop-succ-init
loop-succ-init c = record {
  step = λ start gone h. rw c.in_ok-write.ensures.wait_states (unset c.args.graph.now start c.succs-succ-items.ensures.graph gone c.args.wait_states.now c.args.node _ c.succs-succ-items.result.now
      (omega (arith, c.requires.node, h.size)) refl refl c.if-old.true c.succs-succ-items.ensures.succs h);
  places = λ e has. elim (Contains-push_cases c.args.journal.now.items (c.args.node, wait_state_at c.args.wait_states.now c.args.node) e (subst (λ js. Contains js e) c.in_ok-write.ensures.noted has)) [
    | inl before ↦ inl before
    | inr here ↦ inr (inl (ap (λ (x : ℕ × WaitState). x.0) (sym here)))
  ];
  journaled = c.in_ok-write.ensures.journaled;
}

pub raise-requires : goal.raise-requires
raise-requires c =
    let succs = c.succs-succ-items.result.now in
    let i = c.loop-succ.succ-index in
    let r = c.requires.cleared in
    let h = subst (λ xs. IsClearing c.args.graph.now r.0 (c.args.node ∷ r.1) c.loop-succ.wait_states xs) (drop_more succs i 0 c.loop-succ-test.true) (c.loop-succ.invariant.step r.0 r.1 r.2) in
    record {
      node = omega (arith, h.size, h.within (get_or succs i 0) (contains_head (get_or succs i 0) (drop (i + 1) succs)));
      below = below c.args.graph.now r.0 (c.args.node ∷ r.1) c.loop-succ.wait_states (drop (i + 1) succs) (get_or succs i 0) h;
    }

pub returns-in_err-raise-clause-journaled : goal.returns-in_err-raise-clause-journaled
returns-in_err-raise-clause-journaled c = journaled_on c.args.wait_states.now c.loop-succ.wait_states c.raise.new.wait_states c.args.journal.now.items c.loop-succ.journal.items c.raise.new.journal.items
    c.loop-succ.invariant.journaled c.in_err-raise.ensures.journaled

pub loop-succ-preserved : goal.loop-succ-preserved
loop-succ-preserved c =
    let succs = c.succs-succ-items.result.now in
    let i = c.loop-succ.succ-index in
    let wait_states = c.loop-succ.wait_states in
    record {
      step = λ start gone h.
          let here = subst (λ xs. IsClearing c.args.graph.now start (c.args.node ∷ gone) wait_states xs) (drop_more succs i 0 c.loop-succ-test.true) (c.loop-succ.invariant.step start gone h) in
          rw c.in_ok-raise.ensures.wait_states (raised c.args.graph.now start (c.args.node ∷ gone) wait_states (drop (i + 1) succs) (get_or succs i 0) _
          (omega (arith, here.size, here.within (get_or succs i 0) (contains_head (get_or succs i 0) (drop (i + 1) succs)))) refl refl here);
      places = λ e has. elim (Contains-push_cases c.loop-succ.journal.items (get_or succs i 0, wait_state_at wait_states (get_or succs i 0)) e (subst (λ js. Contains js e) c.in_ok-raise.ensures.noted has)) [
        | inl before ↦ c.loop-succ.invariant.places e before
        | inr here ↦
            let is : get_or succs i 0 ≡ e.0 = ap (λ (x : ℕ × WaitState). x.0) here in
            inr (inr (subst (HasEdge c.args.graph.now c.args.node) is ((c.succs-succ-items.ensures.succs.1 (get_or succs i 0)).0 (Contains-get_or succs i 0 c.loop-succ-test.true))))
      ];
      journaled = journaled_on c.args.wait_states.now wait_states c.raise.new.wait_states c.args.journal.now.items c.loop-succ.journal.items c.raise.new.journal.items
          c.loop-succ.invariant.journaled c.in_ok-raise.ensures.journaled;
    }

pub returns-after-loop-succ-clause-step : goal.returns-after-loop-succ-clause-step
returns-after-loop-succ-clause-step c start gone h = subst (λ xs. IsClearing c.args.graph.now start (c.args.node ∷ gone) c.loop-succ.wait_states xs)
    (drop_all c.loop-succ.succ-index c.succs-succ-items.result.now c.loop-succ-test.false) (c.loop-succ.invariant.step start gone h)

pub returns-else-old-clause-step : goal.returns-else-old-clause-step
returns-else-old-clause-step c start gone h = unset_already c.args.graph.now start gone c.args.wait_states.now c.args.node c.if-old.false h
