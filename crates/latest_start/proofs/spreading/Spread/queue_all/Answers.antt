use Rattle.std.proofs.Common.{◌+◌, subst, arith, drop}
use Rattle.std.proofs.lemmas.List.{drop_more, drop_all}
use Rattle.latest_start.specs.Spread.{IsSpreadTo}
use Rattle.latest_start.proofs.spreading.Spread.queue_all.Goals as goal

pub loop-node-preserved : goal.loop-node-preserved
loop-node-preserved c =
    let nodes = c.args.nodes.now in
    let i = c.loop-node.node-index in
    record {
      size = c.in_ok-queue.ensures.size;
      step = λ items old top h. c.in_ok-queue.ensures.step items old (drop (i + 1) nodes) top
          (subst (λ xs. IsSpreadTo c.args.graph.now items old c.loop-node.self xs top) (drop_more nodes i 0 c.loop-node-test.true) (c.loop-node.invariant.step items old top h));
      nearer = omega (arith, c.in_ok-queue.ensures.nearer, c.loop-node.invariant.nearer);
    }

pub returns-clause-step : goal.returns-clause-step
returns-clause-step c items old top h = subst (λ xs. IsSpreadTo c.args.graph.now items old c.loop-node.self xs top)
    (drop_all c.loop-node.node-index c.args.nodes.now c.loop-node-test.false) (c.loop-node.invariant.step items old top h)
