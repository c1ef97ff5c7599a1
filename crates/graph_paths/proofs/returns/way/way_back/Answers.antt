use Rattle.std.proofs.Common.{sym, subst, ℕ, Bool, List}
use Rattle.operation_graph.specs.Graphs.{HasEdge, IsSet}
use Rattle.graph_paths.specs.Returns.{LeadsBackTo}
use Rattle.graph_paths.proofs.Ways.{back_more, some_before}
use Rattle.graph_paths.proofs.returns.way.way_back.Goals as goal

pub flagged_before-node-requires-clause-some : goal.flagged_before-node-requires-clause-some
flagged_before-node-requires-clause-some c =
    let flags = c.in_ok-reached.reached.items in
    let some = some_before c.args.graph.now c.args.from c.loop-node.node c.loop-node.invariant.reached c.loop-node-test.true in
    (some.0, some.1, subst (λ (bs : List Bool). IsSet bs some.0) (sym c.deref.ensures.value) ((c.in_ok-reached.ensures.1 some.0).1 some.2))

pub loop-node-preserved : goal.loop-node-preserved
loop-node-preserved c =
    let g = c.args.graph.now in
    let before = c.flagged_before-node.result in
    let set = subst (λ (bs : List Bool). IsSet bs before) c.deref.ensures.value c.flagged_before-node.ensures.flag in
    record {
      way = subst (λ (xs : List ℕ). LeadsBackTo (HasEdge g) c.args.to xs before) (sym c.in_ok-push.ensures.items)
          (back_more (HasEdge g) c.args.to c.loop-node.way.items c.loop-node.node before c.loop-node.invariant.way c.flagged_before-node.ensures.edge);
      reached = (c.in_ok-reached.ensures.1 before).0 set;
      node = (c.requires.graph.ends before c.loop-node.node c.flagged_before-node.ensures.edge).0;
    }
