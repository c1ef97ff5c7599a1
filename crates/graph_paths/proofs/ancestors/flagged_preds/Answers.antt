use Rattle.std.proofs.Common.{rules, ◌<◌, arith, sym, subst, Contains, length, inl, inr}
use Rattle.graph_paths.proofs.ancestors.flagged_preds.Goals as goal

pub sift-requires-clause-asked : goal.sift-requires-clause-asked
sift-requires-clause-asked c n has =
    let edge = (c.preds.ensures.preds.1 n).0 ((c.in_ok-preds.ensures.nodes n).0 (subst (λ xs. Contains xs n) c.deref.ensures.value has)) in
    let low = (c.preds.ensures.graph.ends n c.args.node edge).0 in
    let lt : n < length c.args.flags.now = omega (arith, low, c.requires.flags) in
    search (rules, lt)

pub returns-clause-nodes : goal.returns-clause-nodes
returns-clause-nodes c p =
    let preds = c.preds.ensures.preds.1 p in
    let sorted = c.in_ok-preds.ensures.nodes p in (
      λ has.
          let kept = c.in_ok-sift.ensures.kept p has in
          (preds.0 (sorted.0 (subst (λ xs. Contains xs p) c.deref.ensures.value kept.0)), search rules),
      λ h. elim (c.in_ok-sift.ensures.left p (subst (λ xs. Contains xs p) (sym c.deref.ensures.value) (sorted.1 (preds.1 h.0)))) [
        | inl kept ↦ kept
        | inr told ↦ absurd (search (rules, told, h.1))
      ],
    )
