use Rattle.std.proofs.Common.{sym, subst, ℕ, List, Contains}
use Rattle.std.proofs.lemmas.List.Filters.{dedup_is}
use Rattle.std.proofs.lemmas.List.Kept.{Contains-dedup, Contains-from_dedup, IsStrictlySortedBy-dedup}
use Rattle.std.proofs.lemmas.List.Sorted.{Contains-permutation, IsPermutation-sym}
use Rattle.operation_graph.specs.Graphs.{AreDifferent}
use Rattle.operation_graph.proofs.EdgeSets.{edge_cmp_total}
use Rattle.graph_paths.proofs.Once.{different_sorted, same_edge, edge_ties, same_edge_equiv, same_edge_is}
use Rattle.graph_paths.proofs.returns.first.each_once.Goals as goal

pub returns-clause-different : goal.returns-clause-different
returns-clause-different c =
    let sorted = c.sort_unstable.new.self.items in
    let is = dedup_is same_edge sorted _ c.dedup.ensures.filtered in
    subst AreDifferent (sym is) (different_sorted edge_cmp_total _ (IsStrictlySortedBy-dedup edge_cmp_total edge_ties sorted c.sort_unstable.ensures.sorted))

pub returns-clause-same : goal.returns-clause-same
returns-clause-same c e =
    let edges = c.in_ok-once.once.items in
    let sorted = c.sort_unstable.new.self.items in
    let is = dedup_is same_edge sorted _ c.dedup.ensures.filtered in
    let moved = c.sort_unstable.ensures.permutation in (
      λ has. subst (λ (xs : List (ℕ × ℕ)). Contains xs e) c.in_ok-once.ensures.items
          (Contains-permutation sorted edges e (IsPermutation-sym edges sorted moved) (Contains-from_dedup same_edge sorted e (subst (λ (xs : List (ℕ × ℕ)). Contains xs e) is has))),
      λ has. subst (λ (xs : List (ℕ × ℕ)). Contains xs e) (sym is) (Contains-dedup same_edge_equiv same_edge_is sorted e
          (Contains-permutation edges sorted e moved (subst (λ (xs : List (ℕ × ℕ)). Contains xs e) (sym c.in_ok-once.ensures.items) has))),
    )
