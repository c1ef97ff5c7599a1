use Rattle.std.proofs.Common.{[], ◌≡◌, ◌-◌, ◌⊎◌, refl, sym, ap, ◌∙◌, inl, inr, true, false, true≢false, arith}
use Rattle.std.proofs.lemmas.Bool.{cases_Bool, cases_eq}
use Rattle.satisfaction.specs.declared.nodes.WaitState.{WaitState}
use Rattle.satisfaction.specs.Counters.{is_satisfied_at, wait_state_at, waiting_at, waiting_count, unsatisfied_count, IsPassing}
use Rattle.satisfaction.proofs.Counting.{free_is_none, one_if_waiting_at_most, satisfied_is_none, unsatisfied_count_less, unsatisfied_count_same, waiting_count_set, waiting_is_one}
use Rattle.satisfaction.proofs.Lowerings.{write_lowers}
use Rattle.satisfaction.proofs.Cascades.{released, lowered}
use Rattle.satisfaction.proofs.settling.lower.Goals as goal
use Rattle.satisfaction.proofs.settling.lower.Goals.{then-old, else-old}

-- where it passes, it is satisfied from now on
passed : (g : _) (c : goal.In_ok-push g) → c.if-old.new ≡ true
passed g c = elim c.if-old.branch [ then-old w ↦ w.new-is ∙ w.if-old.true | else-old w ↦ w.new-is ∙ c.if-passes.true ]

-- else it is as it was
stays : (g : _) (c : goal.Else-passes g) → c.if-old.new ≡ is_satisfied_at c.args.wait_states.now c.args.node
stays g c = elim c.if-old.branch [ then-old w ↦ w.new-is | else-old w ↦ w.new-is ∙ c.if-passes.false ∙ sym w.if-old.false ]

pub returns-in_ok-push-clause-step : goal.returns-in_ok-push-clause-step
returns-in_ok-push-clause-step g c d rest graph h =
    let passes = c.passes_now-passes.ensures.passes.0 c.if-passes.true in
    let one : waiting_at c.args.wait_states.now c.args.node ≡ 1 = omega (arith, passes.1, c.requires.waits) in
    rw (c.in_ok-push.ensures.items, c.in_ok-write.ensures.wait_states) (released d (g.R.Rules.listed c.args.rules.now) graph c.args.wait_states.now c.args.work.now.items rest c.args.node _ c.requires.node (passed g c) passes.1 one passes.0 passes.2 h)

pub returns-in_ok-push-clause-nearer : goal.returns-in_ok-push-clause-nearer
returns-in_ok-push-clause-nearer g c =
    let wait_states = c.args.wait_states.now in
    let s = c.args.node in
    let passes = c.passes_now-passes.ensures.passes.0 c.if-passes.true in
    let less = unsatisfied_count_less wait_states s (record { satisfied = c.if-old.new; waiting = waiting_at wait_states s - 1 }) c.requires.node passes.0 (passed g c) in
    omega (arith, less, ap unsatisfied_count c.in_ok-write.ensures.wait_states, c.in_ok-push.ensures.len)

pub returns-else-passes-clause-step : goal.returns-else-passes-clause-step
returns-else-passes-clause-step g c d rest graph h =
    rw c.in_ok-write.ensures.wait_states (lowered d (g.R.Rules.listed c.args.rules.now) c.args.wait_states.now c.args.work.now.items rest c.args.node _ c.requires.node
    (stays g c)
    (omega (arith, c.requires.waits))
    (elim (is_satisfied_at c.args.wait_states.now c.args.node) as (λ b. is_satisfied_at c.args.wait_states.now c.args.node ≡ b → (is_satisfied_at c.args.wait_states.now c.args.node ≡ true) ⊎ (IsPassing (g.R.Rules.listed c.args.rules.now) c.args.node → waiting_at c.args.wait_states.now c.args.node - 1 ≡ 0 → ⊥)) [
      | true ↦ λ t. inl t
      | false ↦ λ t. inr (λ p z. true≢false (sym (c.passes_now-passes.ensures.passes.1 (t, z, p)) ∙ c.if-passes.false))
    ] refl)
    h)

pub returns-else-passes-clause-nearer : goal.returns-else-passes-clause-nearer
returns-else-passes-clause-nearer g c =
    let wait_states = c.args.wait_states.now in
    let s = c.args.node in
    let same = unsatisfied_count_same wait_states s (record { satisfied = c.if-old.new; waiting = waiting_at wait_states s - 1 }) (stays g c) in
    omega (arith, same, ap unsatisfied_count c.in_ok-write.ensures.wait_states)

pub returns-in_ok-push-clause-most : goal.returns-in_ok-push-clause-most
returns-in_ok-push-clause-most g c =
    let wait_states = c.args.wait_states.now in
    let s = c.args.node in
    let new : WaitState = record { satisfied = c.if-old.new; waiting = waiting_at wait_states s - 1 } in
    let passes = c.passes_now-passes.ensures.passes.0 c.if-passes.true in
    omega (arith, ap waiting_count c.in_ok-write.ensures.wait_states, waiting_count_set wait_states s new c.requires.node, satisfied_is_none new (passed g c), waiting_is_one (wait_state_at wait_states s) passes.0 c.requires.waits, c.passes_now-passes.ensures.most)

pub returns-else-passes-clause-most : goal.returns-else-passes-clause-most
returns-else-passes-clause-most g c =
    let wait_states = c.args.wait_states.now in
    let s = c.args.node in
    let new : WaitState = record { satisfied = c.if-old.new; waiting = waiting_at wait_states s - 1 } in
    let count = ap waiting_count c.in_ok-write.ensures.wait_states in
    let step = waiting_count_set wait_states s new c.requires.node in
    elim (cases_Bool (is_satisfied_at wait_states s)) [
      | inl on ↦ omega (arith, count, step, satisfied_is_none new (stays g c ∙ on), satisfied_is_none (wait_state_at wait_states s) on, c.passes_now-passes.ensures.none (inl on))
      | inr off ↦
          let one = waiting_is_one (wait_state_at wait_states s) off c.requires.waits in
          elim (cases_eq (waiting_at wait_states s - 1) 0) [
            | inl free ↦ omega (arith, count, step, one, free_is_none new free, c.passes_now-passes.ensures.most)
            | inr more ↦ omega (arith, count, step, one, one_if_waiting_at_most new, c.passes_now-passes.ensures.none (inr (omega (arith, more))))
          ]
    ]

pub returns-in_ok-push-clause-places : goal.returns-in_ok-push-clause-places
returns-in_ok-push-clause-places g c =
    let wait_states = c.args.wait_states.now in
    let s = c.args.node in
    let new : WaitState = record { satisfied = c.if-old.new; waiting = waiting_at wait_states s - 1 } in
    rw c.in_ok-write.ensures.wait_states (write_lowers [] wait_states c.args.journal.now.items c.write.new.journal.items s new (wait_state_at wait_states s) c.requires.node (omega arith) (inr (omega (arith, c.requires.waits))) c.in_ok-write.ensures.noted)

pub returns-else-passes-clause-places : goal.returns-else-passes-clause-places
returns-else-passes-clause-places g c =
    let wait_states = c.args.wait_states.now in
    let s = c.args.node in
    let new : WaitState = record { satisfied = c.if-old.new; waiting = waiting_at wait_states s - 1 } in
    rw c.in_ok-write.ensures.wait_states (write_lowers [] wait_states c.args.journal.now.items c.write.new.journal.items s new (wait_state_at wait_states s) c.requires.node (omega arith) (inr (omega (arith, c.requires.waits))) c.in_ok-write.ensures.noted)
