use Rattle.std.proofs.Common.{sym, subst, Contains}
use Rattle.std.proofs.lemmas.List.Sorted.{IsNonDecreasingBy-from_sort}
use Rattle.graph_paths.proofs.Sifts.{ascending_sorted, same_sorted}
use Rattle.operation_graph.specs.Graphs.{AreDifferent}
use Rattle.plan_reasons.proofs.predecessors.preds_in_order.Goals as goal

pub returns-clause-in_order : goal.returns-clause-in_order
returns-clause-in_order c =
    let ys = c.sort_unstable.new.self.items in
    ascending_sorted c.in_ok-preds.preds.items ys (subst AreDifferent (sym c.in_ok-preds.ensures.items) c.preds.ensures.preds.0) c.sort_unstable.ensures.permutation
    (IsNonDecreasingBy-from_sort (λ x. x) ys c.sort_unstable.ensures.sorted)

pub returns-clause-nodes : goal.returns-clause-nodes
returns-clause-nodes c p =
    let ys = c.sort_unstable.new.self.items in
    let same = same_sorted c.in_ok-preds.preds.items ys c.sort_unstable.ensures.permutation p in
    let edge = c.preds.ensures.preds.1 p in (
      λ has. edge.0 (subst (λ xs. Contains xs p) c.in_ok-preds.ensures.items (same.0 has)),
      λ h. same.1 (subst (λ xs. Contains xs p) (sym c.in_ok-preds.ensures.items) (edge.1 h)),
    )
