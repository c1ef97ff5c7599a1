use Rattle.std.proofs.Common.{◌↔◌, sym, subst, Contains}
use Rattle.std.proofs.lemmas.List.Sorted.{IsNonDecreasingBy-from_sort}
use Rattle.operation_graph.specs.Graphs.{AreDifferent}
use Rattle.graph_paths.proofs.Sifts.{ascending_sorted, same_sorted}
use Rattle.graph_paths.proofs.ancestors.sifting.ascending.Goals as goal

pub returns-clause-in_order : goal.returns-clause-in_order
returns-clause-in_order c =
    let ys = c.sort_unstable.new.self.items in
    ascending_sorted c.in_ok-nodes.nodes.items ys (subst AreDifferent (sym c.in_ok-nodes.ensures.items) c.requires) c.sort_unstable.ensures.permutation
    (IsNonDecreasingBy-from_sort (λ x. x) ys c.sort_unstable.ensures.sorted)

pub returns-clause-nodes : goal.returns-clause-nodes
returns-clause-nodes c n =
    let ys = c.sort_unstable.new.self.items in
    subst (λ xs. Contains ys n ↔ Contains xs n) c.in_ok-nodes.ensures.items (same_sorted c.in_ok-nodes.nodes.items ys c.sort_unstable.ensures.permutation n)
