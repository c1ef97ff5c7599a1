use Rattle.std.proofs.Common.{rules, ◌<◌, sym, subst, Contains, inl, inr}
use Rattle.graph_paths.proofs.Backwards.{upstream_within}
use Rattle.graph_paths.proofs.ancestors.sources.Goals as goal

pub sift-requires-clause-asked : goal.sift-requires-clause-asked
sift-requires-clause-asked c n has =
    let g = c.args.graph.now in
    let found = subst (λ xs. Contains xs n) c.deref.ensures.value ((c.in_ok-found-2.ensures.nodes n).0 (subst (λ xs. Contains xs n) c.deref-2.ensures.value has)) in
    let lt : n < g.nodes = upstream_within g c.upstream.ensures.graph c.args.flags.now c.args.from n c.requires.from ((c.in_ok-found.ensures.reached.1 n).0 found) in
    search (rules, lt, c.requires.flags)

pub returns-clause-nodes : goal.returns-clause-nodes
returns-clause-nodes c n =
    let sorted = c.in_ok-found-2.ensures.nodes n in
    let reached = c.in_ok-found.ensures.reached.1 n in (
      λ has.
          let kept = c.in_ok-sift.ensures.kept n has in
          (reached.0 (subst (λ xs. Contains xs n) c.deref.ensures.value (sorted.0 (subst (λ xs. Contains xs n) c.deref-2.ensures.value kept.0))), search rules),
      λ h. elim (c.in_ok-sift.ensures.left n (subst (λ xs. Contains xs n) (sym c.deref-2.ensures.value) (sorted.1 (subst (λ xs. Contains xs n) (sym c.deref.ensures.value) (reached.1 h.0))))) [
        | inl kept ↦ kept
        | inr told ↦ absurd (search (rules, told, h.1))
      ],
    )
