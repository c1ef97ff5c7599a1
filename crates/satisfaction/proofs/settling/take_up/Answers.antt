use Rattle.std.proofs.Common.{refl, ap, arith, inl, true, [], ◌∷◌}
use Rattle.satisfaction.proofs.Cascades.{started}
use Rattle.satisfaction.proofs.Counting.{satisfied_is_none, waiting_count_set}
use Rattle.satisfaction.specs.Counters.{wait_state_at, waiting_at, waiting_count}
use Rattle.satisfaction.specs.declared.nodes.WaitState.{WaitState}
use Rattle.plan_basics.proofs.Members.{contains_head}
use Rattle.satisfaction.proofs.Lowerings.{write_lowers}
use Rattle.satisfaction.proofs.settling.take_up.Goals as goal

pub returns-in_ok-push-clause-step : goal.returns-in_ok-push-clause-step
returns-in_ok-push-clause-step g c d pending graph h =
    rw (c.in_ok-push.ensures.items, c.in_ok-write.ensures.wait_states) (started d (g.R.Rules.listed c.args.rules.now) graph pending c.args.wait_states.now c.args.work.now.items c.args.node _ c.requires.node refl refl c.if-old.false (rw c.rule_of-rule.ensures.rule at c.is_due.ensures.0 c.if-is_due.true) h)

pub returns-in_ok-push-clause-most : goal.returns-in_ok-push-clause-most
returns-in_ok-push-clause-most g c =
    let new : WaitState = record { satisfied = true; waiting = waiting_at c.args.wait_states.now c.args.node } in
    omega (arith, ap waiting_count c.in_ok-write.ensures.wait_states, waiting_count_set c.args.wait_states.now c.args.node new c.requires.node, satisfied_is_none new refl, c.rule_of-rule.ensures.most)

pub returns-in_ok-push-clause-places : goal.returns-in_ok-push-clause-places
returns-in_ok-push-clause-places g c =
    let wait_states = c.args.wait_states.now in
    let s = c.args.node in
    let new : WaitState = record { satisfied = true; waiting = waiting_at wait_states s } in
    rw c.in_ok-write.ensures.wait_states (write_lowers (s ∷ []) wait_states c.args.journal.now.items c.write.new.journal.items s new (wait_state_at wait_states s) c.requires.node (omega arith) (inl (contains_head s [])) c.in_ok-write.ensures.noted)
