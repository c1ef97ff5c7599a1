use Rattle.std.proofs.Common.{◌+◌, [], ◌∷◌, sym, subst, ◌∙◌, arith, drop, get_or, refl}
use Rattle.std.proofs.lemmas.List.{drop_more, drop_all}
use Rattle.operation_graph.proofs.Counts.{count_head}
use Rattle.plan_basics.proofs.Members.{contains_head}
use Rattle.satisfaction.specs.Counters.{IsCascade}
use Rattle.satisfaction.proofs.Lowerings.{lowered_on}
use Rattle.satisfaction.proofs.Journals.{journaled_on}
use Rattle.satisfaction.proofs.settling.lower_all.Goals as goal

pub lower-requires-clause-node : goal.lower-requires-clause-node
lower-requires-clause-node g c =
    let nodes = c.args.nodes.now in
    let i = c.loop-node.node-index in
    let h = subst (λ xs. IsCascade c.requires.cascade.0 (g.R.Rules.listed c.args.rules.now) [] c.loop-node.wait_states c.loop-node.work.items xs) (drop_more nodes i 0 c.loop-node-test.true)
    (c.loop-node.invariant.step c.requires.cascade.0 c.requires.cascade.1 c.requires.cascade.2) in
    omega (arith, h.size, h.rest_within (get_or nodes i 0) (contains_head (get_or nodes i 0) (drop (i + 1) nodes)))

pub lower-requires-clause-waits : goal.lower-requires-clause-waits
lower-requires-clause-waits g c =
    let nodes = c.args.nodes.now in
    let i = c.loop-node.node-index in
    let s = get_or nodes i 0 in
    let h = subst (λ xs. IsCascade c.requires.cascade.0 (g.R.Rules.listed c.args.rules.now) [] c.loop-node.wait_states c.loop-node.work.items xs) (drop_more nodes i 0 c.loop-node-test.true)
    (c.loop-node.invariant.step c.requires.cascade.0 c.requires.cascade.1 c.requires.cascade.2) in
    let in_g = h.rest_within s (contains_head s (drop (i + 1) nodes)) in
    omega (arith, h.counts s in_g, count_head s s (drop (i + 1) nodes) refl)

pub returns-in_err-lower-clause-journaled : goal.returns-in_err-lower-clause-journaled
returns-in_err-lower-clause-journaled g c = journaled_on c.args.wait_states.now c.loop-node.wait_states c.lower.new.wait_states c.args.journal.now.items c.loop-node.journal.items c.lower.new.journal.items
    c.loop-node.invariant.journaled c.in_err-lower.ensures.journaled

pub loop-node-preserved : goal.loop-node-preserved
loop-node-preserved g c =
    let nodes = c.args.nodes.now in
    let i = c.loop-node.node-index in
    record {
      source = c.in_ok-lower.ensures.source ∙ c.loop-node.invariant.source;
      fewest = omega (arith, c.in_ok-lower.ensures.fewest, c.loop-node.invariant.fewest);
      most = omega (arith, c.in_ok-lower.ensures.most, c.loop-node.invariant.most);
      rules = c.in_ok-lower.ensures.rules ∙ c.loop-node.invariant.rules;
      step = λ d graph h. subst (λ rules. IsCascade d rules [] c.lower.new.wait_states c.lower.new.work.items (drop (i + 1) nodes)) c.loop-node.invariant.rules
          (c.in_ok-lower.ensures.step d (drop (i + 1) nodes) graph
          (subst (λ rules. IsCascade d rules [] c.loop-node.wait_states c.loop-node.work.items (get_or nodes i 0 ∷ drop (i + 1) nodes)) (sym c.loop-node.invariant.rules)
          (subst (λ xs. IsCascade d (g.R.Rules.listed c.args.rules.now) [] c.loop-node.wait_states c.loop-node.work.items xs) (drop_more nodes i 0 c.loop-node-test.true) (c.loop-node.invariant.step d graph h))));
      nearer = omega (arith, c.in_ok-lower.ensures.nearer, c.loop-node.invariant.nearer);
      places = lowered_on [] c.args.wait_states.now c.loop-node.wait_states c.lower.new.wait_states c.args.journal.now.items c.loop-node.journal.items c.lower.new.journal.items
          c.loop-node.invariant.places c.in_ok-lower.ensures.places;
      journaled = journaled_on c.args.wait_states.now c.loop-node.wait_states c.lower.new.wait_states c.args.journal.now.items c.loop-node.journal.items c.lower.new.journal.items
          c.loop-node.invariant.journaled c.in_ok-lower.ensures.journaled;
    }

pub returns-clause-step : goal.returns-clause-step
returns-clause-step g c d graph h = subst (λ xs. IsCascade d (g.R.Rules.listed c.args.rules.now) [] c.loop-node.wait_states c.loop-node.work.items xs)
    (drop_all c.loop-node.node-index c.args.nodes.now c.loop-node-test.false) (c.loop-node.invariant.step d graph h)
