use Rattle.std.proofs.Common.{sym, subst}
use Rattle.operation_graph.specs.Graphs.{Digraph}
use Rattle.request_outcomes.proofs.HandedGraphs.{node_within}
use Rattle.request_outcomes.proofs.graphs.graph_with.Goals as goal
use Rattle.plan_drafts.specs.PlanGraphs.{IsGraphFor}
use Rattle.small_requests.specs.plan_checks.proofs.NewEdges.{pair_is_edge}

pub add_edge-requires-clause-before : goal.add_edge-requires-clause-before
add_edge-requires-clause-before c =
    let P = c.args.uncounted.now.contents.now in
    node_within P c.in_ok-copy.copy (subst (λ (g : Digraph). IsGraphFor P g) (sym c.in_ok-copy.ensures.same) c.requires.graph) c.known_operation_place-before.result c.known_operation_place-before.ensures.within

pub add_edge-requires-clause-after : goal.add_edge-requires-clause-after
add_edge-requires-clause-after c =
    let P = c.args.uncounted.now.contents.now in
    node_within P c.in_ok-copy.copy (subst (λ (g : Digraph). IsGraphFor P g) (sym c.in_ok-copy.ensures.same) c.requires.graph) c.known_operation_place-after.result c.known_operation_place-after.ensures.within

pub returns-in-Ok-clause-graph : goal.returns-in-Ok-clause-graph
returns-in-Ok-clause-graph c =
    let P = c.args.uncounted.now.contents.now in
    let first = c.known_operation_place-before.ensures.at in
    let second = c.known_operation_place-after.ensures.at in
    pair_is_edge P c.args.predecessor.now c.args.successor.now c.known_operation_place-before.result c.known_operation_place-after.result first.0 second.0 first.1 second.1
    c.in_ok-copy.copy c.add_edge.new.self (subst (λ (g : Digraph). IsGraphFor P g) (sym c.in_ok-copy.ensures.same) c.requires.graph) c.in-Ok.ensures.edge c.in-Ok.ensures.graph
