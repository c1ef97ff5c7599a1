use Rattle.std.proofs.Common.{◌≡◌, ◌∙◌, ◌<◌, sym, ap, subst, ℕ, List, All}
use Rattle.std.proofs.lemmas.List.Elements.{All-contains}
use Rattle.plan_basics.proofs.Members.{all_by_members}
use Rattle.operation_graph.specs.Graphs.{IsFaultIn, edges_of}
use Rattle.graph_paths.proofs.Firsts.{same_edges_of, graph_is_of, some_returns}
use Rattle.graph_paths.proofs.returns.first.graph_of_each.Goals as goal

pub build-requires : goal.build-requires
build-requires c =
    let within = λ (e : ℕ × ℕ). (e.0 < c.args.nodes) × (e.1 < c.args.nodes) in
    subst (λ (es : List (ℕ × ℕ)). All within es) (sym c.deref.ensures.value)
    (all_by_members within c.in_ok-once.once.items (λ e has. All-contains within c.args.edges.now e c.requires ((c.in_ok-once.ensures.same e).0 has)))

pub returns-in-Ok : goal.returns-in-Ok
returns-in-Ok c =
    let same : edges_of c.deref.result.now ≡ edges_of c.args.edges.now = ap edges_of c.deref.ensures.value ∙ same_edges_of c.in_ok-once.once.items c.args.edges.now c.in_ok-once.ensures.same in
    graph_is_of c.args.nodes c.deref.result.now c.args.edges.now same c.in-Ok.graph c.in-Ok.ensures.built

pub returns-in-Err-Cycle : goal.returns-in-Err-Cycle
returns-in-Err-Cycle c =
    let same : edges_of c.deref.result.now ≡ edges_of c.args.edges.now = ap edges_of c.deref.ensures.value ∙ same_edges_of c.in_ok-once.once.items c.args.edges.now c.in_ok-once.ensures.same in
    some_returns c.args.nodes c.deref.result.now c.args.edges.now same (subst (IsFaultIn c.deref.result.now) c.in-Err-Cycle.field-0-is c.in-Err-Cycle.ensures.refused)
