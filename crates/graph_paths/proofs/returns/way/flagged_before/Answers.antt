use Rattle.std.proofs.Common.{◌+◌, arith, inl, inr, sym, ◌∙◌, subst, ℕ, List, get_or, drop, true≢false, Contains}
use Rattle.std.proofs.lemmas.List.{drop_more}
use Rattle.std.proofs.lemmas.List.Elements.{Contains-get_or}
use Rattle.operation_graph.specs.Graphs.{IsSet}
use Rattle.plan_basics.proofs.Members.{contains_cases}
use Rattle.graph_paths.proofs.returns.way.flagged_before.Goals as goal

pub bounds-flags-before : goal.bounds-flags-before
bounds-flags-before c =
    let xs = c.preds-before-items.result.now in
    let i = c.loop-before.before-index in
    let p = get_or xs i 0 in
    let edge = (c.preds-before-items.ensures.preds.1 p).0 (Contains-get_or xs i 0 c.loop-before-test.true) in
    let low = (c.preds-before-items.ensures.graph.ends p c.args.node edge).0 in
    omega (arith, low, c.requires.flags)

pub loop-before-preserved : goal.loop-before-preserved
loop-before-preserved c p has set =
    let xs = c.preds-before-items.result.now in
    let i = c.loop-before.before-index in
    elim (contains_cases (get_or xs i 0) (drop (i + 1) xs) p (subst (λ (ys : List ℕ). Contains ys p) (drop_more xs i 0 c.loop-before-test.true) (c.loop-before.invariant p has set))) [
      | inl is ↦ absurd (true≢false (sym (subst (IsSet c.args.flags.now) (sym is) set) ∙ c.if-flags-before.false))
      | inr later ↦ later
    ]
