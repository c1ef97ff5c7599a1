use Rattle.std.proofs.Common.{◌≡◌, ◌<◌, ◌+◌, ◌∷◌, ◌∙◌, arith, sym, subst, length, drop, get_or, false, true≢false, Contains}
use Rattle.std.proofs.lemmas.List.{get_or_read, drop_more, drop_all}
use Rattle.std.proofs.lemmas.List.Elements.{Contains-get_or}
use Rattle.operation_graph.proofs.Reaching.{IsVisit, visit_ended, visit_passed, visit_met}
use Rattle.plan_basics.proofs.Members.{contains_head}
use Rattle.graph_paths.specs.Walking.{predecessor_rows}
use Rattle.graph_paths.specs.declared.ancestors.walk.Walk.{Walk}
use Rattle.graph_paths.proofs.Backwards.{as_many, visit_begun}
use Rattle.graph_paths.proofs.ancestors.walk.Walk.visit.Goals as goal
use Rattle.graph_paths.proofs.ancestors.walk.Walk.visit.Goals.{then-flags-pred+then-not-index+in_ok-push, else-flags-pred, else-flags-pred-via-then-flags-pred+else-not-index, else-flags-pred-via-else-flags-pred}

pub preds-pred-items-requires : goal.preds-pred-items-requires
preds-pred-items-requires c =
    let found = c.args.self.now.found.items in
    let is = get_or_read found c.args.place c.index-node.result.now c.requires.place c.index-node.ensures 0 in
    omega (arith, is, as_many c.args.graph.now, (c.requires.walk.1.found_seen _ (Contains-get_or found c.args.place 0 c.requires.place)).0)

pub loop-pred-init : goal.loop-pred-init
loop-pred-init c from w =
    let found = c.args.self.now.found.items in
    let is = get_or_read found c.args.place c.index-node.result.now c.requires.place c.index-node.ensures 0 in
    visit_begun c.args.graph.now c.preds-pred-items.ensures.graph c.args.flags.now from c.args.self.now.seen.items found c.args.place c.index-node.result.now c.preds-pred-items.result.now
    w c.requires.place (sym is) c.preds-pred-items.ensures.preds

pub bounds-flags-pred : goal.bounds-flags-pred
bounds-flags-pred c =
    let xs = c.preds-pred-items.result.now in
    let i = c.loop-pred.pred-index in
    let v = c.loop-pred.invariant c.requires.walk.0 c.requires.walk.1 in
    let s = get_or xs i 0 in
    omega (arith, v.walk.live_size, v.walk.nodes _ s (v.some s (subst (λ ys. Contains ys s) (sym (drop_more xs i 0 c.loop-pred-test.true)) (contains_head s (drop (i + 1) xs)))))

pub loop-pred-preserved : goal.loop-pred-preserved
loop-pred-preserved c from w =
    let rows = predecessor_rows c.args.graph.now in
    let flags = c.args.flags.now in
    let xs = c.preds-pred-items.result.now in
    let i = c.loop-pred.pred-index in
    let s = get_or xs i 0 in
    let rest = drop (i + 1) xs in
    let old = c.loop-pred.self in
    let v : IsVisit rows flags from old.seen.items old.found.items c.args.place (s ∷ rest) = subst (λ ys. IsVisit rows flags from old.seen.items old.found.items c.args.place ys)
    (drop_more xs i 0 c.loop-pred-test.true) (c.loop-pred.invariant from w) in
    let in_seen : s < length old.seen.items = omega (arith, v.walk.size, v.walk.nodes _ s (v.some s (contains_head s rest))) in
    elim c.if-flags-pred.branch [
      | then-flags-pred+then-not-index+in_ok-push t ↦
          let new : get_or old.seen.items s false ≡ false = sym (get_or_read old.seen.items s t.index.result.now in_seen t.index.ensures false) ∙ t.if-not-index.true in
          subst (λ (x : Walk). IsVisit rows flags from x.seen.items x.found.items c.args.place rest) (sym t.self-is)
          (rw t.in_ok-push.ensures.items (visit_met rows flags from old.seen.items old.found.items c.args.place s rest v t.if-flags-pred.true new))
      | else-flags-pred t ↦
          subst (λ (x : Walk). IsVisit rows flags from x.seen.items x.found.items c.args.place rest) (sym t.self-is)
          (visit_passed rows flags from old.seen.items old.found.items c.args.place s rest v (λ l. elim t.else-flags-pred.branch [
            | else-flags-pred-via-then-flags-pred+else-not-index u ↦ sym (get_or_read old.seen.items s u.index.result.now in_seen u.index.ensures false) ∙ u.if-not-index.false
            | else-flags-pred-via-else-flags-pred u ↦ absurd (true≢false (sym l ∙ u.if-flags-pred.false))
          ]))
    ]

pub returns : goal.returns
returns c from w =
    let rows = predecessor_rows c.args.graph.now in
    let xs = c.preds-pred-items.result.now in
    let walk = c.loop-pred.self in
    visit_ended rows c.args.flags.now from walk.seen.items walk.found.items c.args.place
    (subst (λ ys. IsVisit rows c.args.flags.now from walk.seen.items walk.found.items c.args.place ys) (drop_all c.loop-pred.pred-index xs c.loop-pred-test.false) (c.loop-pred.invariant from w))
