use Rattle.std.proofs.Common.{refl, subst}
use Rattle.operation_graph.specs.Graphs.{IsFaultIn}
use Rattle.graph_paths.proofs.Firsts.{graph_is_of, some_returns}
use Rattle.graph_paths.proofs.returns.first.graph_of.Goals as goal

pub returns-in-Ok : goal.returns-in-Ok
returns-in-Ok c = graph_is_of c.args.nodes c.args.edges.now c.args.edges.now refl c.in-Ok.graph c.in-Ok.ensures.built

pub returns-in-Err-Cycle : goal.returns-in-Err-Cycle
returns-in-Err-Cycle c = some_returns c.args.nodes c.args.edges.now c.args.edges.now refl (subst (IsFaultIn c.args.edges.now) c.in-Err-Cycle.field-0-is c.in-Err-Cycle.ensures.refused)
