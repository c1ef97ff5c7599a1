use Rattle.std.proofs.Common.{◌<◌, refl, sym, subst, length, All}
use Rattle.plan_drafts.specs.PlanGraphs.{AreAtPlaces}
use Rattle.plan_model.specs.operation_graph.specs.Graphs.{IsBuiltOf}
use Rattle.plan_drafts.proofs.PairEdges.{edges_within, ends_at_places, graph_built, never_twice, no_path_returns, some_path_returns}
use Rattle.plan_drafts.proofs.graphs.graph_among.Goals as goal
use Rattle.plan_drafts.proofs.graphs.graph_among.Goals.{In-Some}

-- the edges are those of the pairs
at_places : (c : In-Some) → AreAtPlaces c.args.keys.now c.args.pairs.now c.in-Some.edges.items
at_places c = rw c.in-Some.is at c.in_ok-edges.ensures

pub returns-in_default : goal.returns-in_default
returns-in_default c = λ both. (rw c.in_default.is at c.in_ok-edges.ensures) both.0

pub build-requires : goal.build-requires
build-requires c =
    let keys = c.args.keys.now in
    let edges = c.in-Some.edges.items in
    subst (All (λ e. (e.0 < length keys) × (e.1 < length keys))) (sym c.deref.ensures.value) (edges_within keys c.args.pairs.now edges (at_places (goal.at.build-requires c).In-Some))

pub returns-in-Ok : goal.returns-in-Ok
returns-in-Ok c =
    let keys = c.args.keys.now in
    let pairs = c.args.pairs.now in
    let edges = c.in-Some.edges.items in
    let placed = at_places (goal.at.returns-in-Ok c).In-Some in
    let among = ends_at_places keys pairs edges placed in
    let built = subst (λ es. IsBuiltOf (length keys) es c.in-Ok.graph) c.deref.ensures.value c.in-Ok.ensures.built in (
      graph_built keys pairs edges placed c.requires.keys (length keys) c.in-Ok.graph refl built,
      among,
      no_path_returns keys pairs edges placed c.requires.keys (length keys) c.in-Ok.graph refl built among,
    )

pub returns-in-Err-Cycle : goal.returns-in-Err-Cycle
returns-in-Err-Cycle c = λ both.
    let returns = rw c.in-Err-Cycle.field-0-is at c.in-Err-Cycle.ensures.refused in
    let edges = c.in-Some.edges.items in
    some_path_returns c.args.keys.now c.args.pairs.now edges (at_places (goal.at.returns-in-Err-Cycle c).In-Some) c.requires.keys (rw c.deref.ensures.value at returns) both.1

pub unreachable-requires : goal.unreachable-requires
unreachable-requires c =
    let twice = rw c.in-Err-Duplicate.field-0-is at c.in-Err-Duplicate.ensures.refused in
    let edges = c.in-Some.edges.items in
    (rw c.deref.ensures.value at twice) (never_twice c.args.keys.now c.args.pairs.now edges (at_places (goal.at.unreachable-requires c).In-Some) c.requires.keys c.requires.pairs)
