use Rattle.std.proofs.Common.{◌≡◌, [], sym, subst, ◌∙◌, arith, List, ℕ}
use Rattle.std.proofs.lemmas.List.{nil_from_length}
use Rattle.std.proofs.lemmas.List.Elements.{Contains-push}
use Rattle.std.specs.Prelude.{Contains}
use Rattle.satisfaction.specs.Counters.{IsCascade}
use Rattle.satisfaction.proofs.Lowerings.{lowered_on}
use Rattle.satisfaction.proofs.Journals.{journaled_on}
use Rattle.satisfaction.proofs.Cascades.{taken_up, settled}
use Rattle.satisfaction.proofs.settling.spread.Goals as goal

pub succs-requires : goal.succs-requires
succs-requires g c = c.loop-node.invariant.cascade.within c.in-Some.node (subst (λ (xs : List ℕ). Contains xs c.in-Some.node) (sym c.in-Some.ensures.items) (Contains-push c.pop.new.self.items c.in-Some.node))

pub lower_all-requires-clause-cascade : goal.lower_all-requires-clause-cascade
lower_all-requires-clause-cascade g c = (
  c.args.graph.now,
  c.requires.graph,
  subst (λ rules. IsCascade c.args.graph.now rules [] c.loop-node.wait_states c.pop.new.self.items c.succs.result.now) (sym c.loop-node.invariant.rules)
      (taken_up c.args.graph.now (g.R.Rules.listed c.args.rules.now) c.requires.graph [] c.loop-node.wait_states c.pop.new.self.items c.in-Some.node c.succs.result.now c.succs.ensures.succs
      (subst (λ xs. IsCascade c.args.graph.now (g.R.Rules.listed c.args.rules.now) [] c.loop-node.wait_states xs []) c.in-Some.ensures.items c.loop-node.invariant.cascade)),
)

pub loop-node-preserved : goal.loop-node-preserved
loop-node-preserved g c = record {
  source = c.in_ok-lower_all.ensures.source ∙ c.loop-node.invariant.source;
  fewest = omega (arith, c.in_ok-lower_all.ensures.fewest, c.loop-node.invariant.fewest);
  most = omega (arith, c.in_ok-lower_all.ensures.most, c.loop-node.invariant.most);
  rules = c.in_ok-lower_all.ensures.rules ∙ c.loop-node.invariant.rules;
  cascade = subst (λ rules. IsCascade c.args.graph.now rules [] c.lower_all.new.wait_states c.lower_all.new.work.items []) c.loop-node.invariant.rules
      (c.in_ok-lower_all.ensures.step c.args.graph.now c.requires.graph
      (subst (λ rules. IsCascade c.args.graph.now rules [] c.loop-node.wait_states c.pop.new.self.items c.succs.result.now) (sym c.loop-node.invariant.rules)
      (taken_up c.args.graph.now (g.R.Rules.listed c.args.rules.now) c.requires.graph [] c.loop-node.wait_states c.pop.new.self.items c.in-Some.node c.succs.result.now c.succs.ensures.succs
      (subst (λ xs. IsCascade c.args.graph.now (g.R.Rules.listed c.args.rules.now) [] c.loop-node.wait_states xs []) c.in-Some.ensures.items c.loop-node.invariant.cascade))));
  places = lowered_on [] c.args.wait_states.now c.loop-node.wait_states c.lower_all.new.wait_states c.args.journal.now.items c.loop-node.journal.items c.lower_all.new.journal.items
      c.loop-node.invariant.places c.in_ok-lower_all.ensures.places;
  journaled = journaled_on c.args.wait_states.now c.loop-node.wait_states c.lower_all.new.wait_states c.args.journal.now.items c.loop-node.journal.items c.lower_all.new.journal.items
      c.loop-node.invariant.journaled c.in_ok-lower_all.ensures.journaled;
}

pub returns-in_err-lower_all-clause-journaled : goal.returns-in_err-lower_all-clause-journaled
returns-in_err-lower_all-clause-journaled g c = journaled_on c.args.wait_states.now c.loop-node.wait_states c.lower_all.new.wait_states c.args.journal.now.items c.loop-node.journal.items c.lower_all.new.journal.items
    c.loop-node.invariant.journaled c.in_err-lower_all.ensures.journaled

pub returns-clause-right : goal.returns-clause-right
returns-clause-right g c =
    let none : c.loop-node.work.items ≡ [] = nil_from_length c.loop-node.work.items (omega (arith, c.in_default.ensures.cases, c.loop-node.work.ok.0)) in
    settled c.args.graph.now (g.R.Rules.listed c.args.rules.now) c.requires.graph c.loop-node.wait_states
    (subst (λ xs. IsCascade c.args.graph.now (g.R.Rules.listed c.args.rules.now) [] c.loop-node.wait_states xs []) none c.loop-node.invariant.cascade)
