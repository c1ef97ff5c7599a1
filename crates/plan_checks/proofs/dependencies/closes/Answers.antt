use Rattle.std.proofs.Common.{◌≡◌, ◌∙◌, ap, subst, true, Bool, List, replicate, Contains, IsTrue, ◌↔◌, rules}
use Rattle.operation_graph.specs.Graphs.{AreExactly, HasEdge, IsSet}
use Rattle.operation_graph.specs.Paths.{ReachesBy}
use Rattle.plan_checks.proofs.ClosedPaths.{closes_by_reach}
use Rattle.plan_checks.proofs.dependencies.closes.Goals as goal

pub returns-clause-closes : goal.returns-clause-closes
returns-clause-closes c =
    let g = c.args.graph.now in
    let live : c.deref.result.now ≡ replicate g.nodes true = c.deref.ensures.value ∙ c.in_ok-all.ensures.items_if_clones_equal (λ y e. e) ∙ ap (λ n. replicate n true) c.requires.nodes in
    let found = subst (λ (fs : List Bool). AreExactly (ReachesBy (HasEdge g) (IsSet fs) c.args.after) c.in_ok-reach.field-0.items) live c.in_ok-reach.ensures.reached in
    let is = closes_by_reach g c.args.before c.args.after c.requires.graph in
    let has : IsTrue c.contains.result ↔ Contains c.in_ok-reach.field-0.items c.args.before = search rules in
    (λ h. is.0 ((found.1 c.args.before).0 (has.0 h)), λ h. has.1 ((found.1 c.args.before).1 (is.1 h)))
