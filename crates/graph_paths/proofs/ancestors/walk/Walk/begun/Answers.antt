use Rattle.std.proofs.Common.{◌≡◌, ◌∙◌, sym, ap, subst, set, true, replicate, ◌∷◌, ◌++◌, [], false, arith}
use Rattle.operation_graph.specs.Walks.{IsWalk}
use Rattle.operation_graph.proofs.Reaching.{walk_begun}
use Rattle.graph_paths.specs.Walking.{predecessor_rows}
use Rattle.graph_paths.proofs.Backwards.{as_many, rows_of_nodes}
use Rattle.graph_paths.proofs.ancestors.walk.Walk.begun.Goals as goal

pub returns-clause-walk : goal.returns-clause-walk
returns-clause-walk c =
    let g = c.args.graph.now in
    let rows = predecessor_rows g in
    let size = as_many g in
    let flags = c.args.flags.now in
    let from = c.args.from in
    let seen : c.in_ok-seen.seen.items ≡ replicate c.nodes.result false = c.in_ok-seen.ensures.items_if_clones_equal (λ y e. e) in
    let found : c.push.new.self.items ≡ from ∷ [] = c.in_ok-push.ensures.items ∙ ap (λ xs. xs ++ from ∷ []) c.new-found.ensures.items in
    subst (λ xs. IsWalk rows flags from (set c.in_ok-seen.seen.items from true) xs 0) (sym found)
    (subst (λ bs. IsWalk rows flags from (set bs from true) (from ∷ []) 0) (sym seen)
    (walk_begun rows flags from c.nodes.result (c.nodes.ensures ∙ sym size) (rows_of_nodes g) (c.requires.flags ∙ sym size) (omega (arith, c.requires.from, size))))
