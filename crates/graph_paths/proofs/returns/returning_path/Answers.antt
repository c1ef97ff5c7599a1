use Rattle.std.proofs.Common.{get_or, Contains}
use Rattle.std.proofs.lemmas.List.{get_or_default}
use Rattle.std.proofs.lemmas.Option.{slice_get-get_or}
use Rattle.operation_graph.specs.Graphs.{HasEdge}
use Rattle.graph_paths.proofs.Firsts.{first_closes, edge_among}
use Rattle.graph_paths.proofs.Ways.{back_along, closes_reached}
use Rattle.graph_paths.proofs.returns.returning_path.Goals as goal

pub way_back-requires-clause-leads : goal.way_back-requires-clause-leads
way_back-requires-clause-leads c =
    let edges = c.args.edges.now in
    let place = c.in_ok-place.place in
    let e = get_or edges place (0, 0) in
    let g = c.in-Some.graph in
    let is = rw c.in-Some.is at c.in_ok-graph.ensures in
    closes_reached g e.0 e.1 (first_closes edges place e.0 e.1 c.in_ok-place.ensures.there (get_or_default edges place (0, 0) e c.in_ok-place.ensures.there) c.args.nodes g is c.in_ok-place.ensures.first)

pub returns-clause-found : goal.returns-clause-found
returns-clause-found c =
    let edges = c.args.edges.now in
    let place = c.in_ok-place.place in
    let e = get_or edges place (0, 0) in
    let g = c.in-Some.graph in
    let is = rw c.in-Some.is at c.in_ok-graph.ensures in (
      e.0,
      e.1,
      slice_get-get_or edges place (0, 0) c.in_ok-place.ensures.there,
      back_along (HasEdge g) (λ p s. Contains edges (p, s)) (edge_among c.args.nodes edges place g is) e.0 c.in_ok-way.way.items e.1 c.in_ok-way.ensures,
    )
