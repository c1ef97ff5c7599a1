use Rattle.std.proofs.Common.{◌≡◌, ◌∙◌, sym, ap, subst, length, set, true, replicate, ◌∷◌, ◌++◌, [], false, arith}
use Rattle.operation_graph.specs.Adjacency.{rows_of}
use Rattle.operation_graph.specs.Walks.{IsWalk}
use Rattle.operation_graph.proofs.Opened.{length_rows}
use Rattle.operation_graph.proofs.Reaching.{walk_begun}
use Rattle.operation_graph.proofs.walk.Walk.begun.Goals as goal

pub returns : goal.returns
returns c =
    let succs = rows_of c.args.succs.now in
    let size = length_rows c.args.succs.now in
    let seen : c.in_ok-seen.seen.items ≡ replicate (length c.args.succs.now) false = c.in_ok-seen.ensures.items_if_clones_equal (λ y e. e) in
    let found : c.push.new.self.items ≡ c.args.from ∷ [] = c.in_ok-push.ensures.items ∙ ap (λ xs. xs ++ c.args.from ∷ []) c.new-found.ensures.items in
    subst (λ xs. IsWalk succs c.args.live.now c.args.from (set c.in_ok-seen.seen.items c.args.from true) xs 0) (sym found)
    (subst (λ bs. IsWalk succs c.args.live.now c.args.from (set bs c.args.from true) (c.args.from ∷ []) 0) (sym seen)
    (walk_begun succs c.args.live.now c.args.from (length c.args.succs.now) (sym size) c.requires.nodes (c.requires.live ∙ sym size) (omega (arith, c.requires.from, size))))
