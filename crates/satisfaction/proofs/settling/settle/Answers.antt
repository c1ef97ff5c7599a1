use Rattle.std.proofs.Common.{inl, inr, Contains, arith, [], ◌∷◌, sym, subst, ◌∙◌, ◌+◌, drop, get_or}
use Rattle.std.proofs.lemmas.Result.{on_ok_weaker}
use Rattle.std.proofs.lemmas.List.{drop_more, drop_all}
use Rattle.satisfaction.specs.Counters.{IsCascade}
use Rattle.std.proofs.lemmas.List.Elements.{Contains-get_or}
use Rattle.plan_basics.proofs.Members.{contains_cases, contains_none}
use Rattle.satisfaction.proofs.Lowerings.{lowered_on, lowered_wider}
use Rattle.satisfaction.proofs.Journals.{journaled_on}
use Rattle.satisfaction.proofs.settling.settle.Goals as goal

pub returns-in_err-take_up-clause-journaled : goal.returns-in_err-take_up-clause-journaled
returns-in_err-take_up-clause-journaled g c = journaled_on c.args.wait_states.now c.loop-node.wait_states c.take_up.new.wait_states c.args.journal.now.items c.loop-node.journal.items c.take_up.new.journal.items
    c.loop-node.invariant.journaled c.in_err-take_up.ensures.journaled

pub loop-node-preserved : goal.loop-node-preserved
loop-node-preserved g c =
    let nodes = c.args.changed.now in
    let i = c.loop-node.node-index in
    let inv = c.loop-node.invariant in
    record {
      source = c.in_ok-take_up.ensures.source ∙ inv.source;
      fewest = omega (arith, c.in_ok-take_up.ensures.fewest, inv.fewest);
      most = omega (arith, c.in_ok-take_up.ensures.most, inv.most);
      rules = c.in_ok-take_up.ensures.rules ∙ inv.rules;
      cascade = subst (λ rules. IsCascade c.args.graph.now rules (drop (i + 1) nodes) c.take_up.new.wait_states c.take_up.new.work.items []) inv.rules
          (c.in_ok-take_up.ensures.step c.args.graph.now (drop (i + 1) nodes) c.requires.graph
          (subst (λ rules. IsCascade c.args.graph.now rules (get_or nodes i 0 ∷ drop (i + 1) nodes) c.loop-node.wait_states c.loop-node.work.items []) (sym inv.rules)
          (subst (λ xs. IsCascade c.args.graph.now (g.R.Rules.listed c.args.rules.now) xs c.loop-node.wait_states c.loop-node.work.items []) (drop_more nodes i 0 c.loop-node-test.true) inv.cascade)));
      places = lowered_on nodes c.args.wait_states.now c.loop-node.wait_states c.take_up.new.wait_states c.args.journal.now.items c.loop-node.journal.items c.take_up.new.journal.items
          inv.places (lowered_wider (get_or nodes i 0 ∷ []) nodes c.loop-node.wait_states c.take_up.new.wait_states c.loop-node.journal.items c.take_up.new.journal.items
          (λ n has. elim (contains_cases (get_or nodes i 0) [] n has) [ inl is ↦ subst (Contains nodes) is (Contains-get_or nodes i 0 c.loop-node-test.true) | inr later ↦ absurd (contains_none n later) ])
          c.in_ok-take_up.ensures.places);
      journaled = journaled_on c.args.wait_states.now c.loop-node.wait_states c.take_up.new.wait_states c.args.journal.now.items c.loop-node.journal.items c.take_up.new.journal.items
          inv.journaled c.in_ok-take_up.ensures.journaled;
    }

pub spread-requires-clause-begun : goal.spread-requires-clause-begun
spread-requires-clause-begun g c =
    let inv = c.loop-node.invariant in
    subst (λ rules. IsCascade c.args.graph.now rules [] c.loop-node.wait_states c.loop-node.work.items []) (sym inv.rules)
    (subst (λ xs. IsCascade c.args.graph.now (g.R.Rules.listed c.args.rules.now) xs c.loop-node.wait_states c.loop-node.work.items []) (drop_all c.loop-node.node-index c.args.changed.now c.loop-node-test.false) inv.cascade)

pub returns-clause-places : goal.returns-clause-places
returns-clause-places g c =
    let nodes = c.args.changed.now in
    on_ok_weaker c.spread.result (λ rest. lowered_on nodes c.args.wait_states.now c.loop-node.wait_states c.spread.new.wait_states c.args.journal.now.items c.loop-node.journal.items c.spread.new.journal.items
    c.loop-node.invariant.places (lowered_wider [] nodes c.loop-node.wait_states c.spread.new.wait_states c.loop-node.journal.items c.spread.new.journal.items (λ n has. absurd (contains_none n has)) rest)) c.spread.ensures.places

pub returns-clause-journaled : goal.returns-clause-journaled
returns-clause-journaled g c = journaled_on c.args.wait_states.now c.loop-node.wait_states c.spread.new.wait_states c.args.journal.now.items c.loop-node.journal.items c.spread.new.journal.items
    c.loop-node.invariant.journaled c.spread.ensures.journaled
