use Rattle.std.proofs.Common.{◌≡◌, ◌<◌, ◌+◌, ◌∷◌, ◌∙◌, arith, sym, subst, length, drop, get_or, false, true≢false, Contains}
use Rattle.std.proofs.lemmas.List.{get_or_read, drop_more, drop_all}
use Rattle.std.proofs.lemmas.List.Elements.{Contains-get_or}
use Rattle.operation_graph.specs.Adjacency.{rows_of}
use Rattle.operation_graph.specs.declared.walk.Walk.{Walk}
use Rattle.plan_basics.proofs.Members.{contains_head}
use Rattle.operation_graph.proofs.Opened.{length_rows}
use Rattle.operation_graph.proofs.Reaching.{IsVisit, visit_ended, visit_passed, visit_met}
use Rattle.operation_graph.proofs.walk.Walk.visit.Goals as goal
use Rattle.operation_graph.proofs.walk.Walk.visit.Goals.{then-live-next+then-not-index+in_ok-push, else-live-next, else-live-next-via-then-live-next+else-not-index, else-live-next-via-else-live-next}

pub row_of-next-items-requires : goal.row_of-next-items-requires
row_of-next-items-requires c =
    let found = c.args.self.now.found.items in
    let is = get_or_read found c.args.place c.index-node.result.now c.requires.place c.index-node.ensures 0 in
    omega (arith, is, length_rows c.args.succs.now, (c.requires.walk.1.found_seen _ (Contains-get_or found c.args.place 0 c.requires.place)).0)

pub bounds-live-next : goal.bounds-live-next
bounds-live-next c =
    let xs = c.row_of-next-items.result.now in
    let i = c.loop-next.next-index in
    let v = c.loop-next.invariant c.requires.walk.0 c.requires.walk.1 in
    let s = get_or xs i 0 in
    omega (arith, v.walk.live_size, v.walk.nodes _ s (v.some s (subst (λ ys. Contains ys s) (sym (drop_more xs i 0 c.loop-next-test.true)) (contains_head s (drop (i + 1) xs)))))

pub loop-next-preserved : goal.loop-next-preserved
loop-next-preserved c from w =
    let succs = rows_of c.args.succs.now in
    let live = c.args.live.now in
    let xs = c.row_of-next-items.result.now in
    let i = c.loop-next.next-index in
    let s = get_or xs i 0 in
    let rest = drop (i + 1) xs in
    let old = c.loop-next.self in
    let v : IsVisit succs live from old.seen.items old.found.items c.args.place (s ∷ rest) = subst (λ ys. IsVisit succs live from old.seen.items old.found.items c.args.place ys)
    (drop_more xs i 0 c.loop-next-test.true) (c.loop-next.invariant from w) in
    let in_seen : s < length old.seen.items = omega (arith, v.walk.size, v.walk.nodes _ s (v.some s (contains_head s rest))) in
    elim c.if-live-next.branch [
      | then-live-next+then-not-index+in_ok-push t ↦
          let new : get_or old.seen.items s false ≡ false = sym (get_or_read old.seen.items s t.index.result.now in_seen t.index.ensures false) ∙ t.if-not-index.true in
          subst (λ (x : Walk). IsVisit succs live from x.seen.items x.found.items c.args.place rest) (sym t.self-is)
          (rw t.in_ok-push.ensures.items (visit_met succs live from old.seen.items old.found.items c.args.place s rest v t.if-live-next.true new))
      | else-live-next t ↦
          subst (λ (x : Walk). IsVisit succs live from x.seen.items x.found.items c.args.place rest) (sym t.self-is)
          (visit_passed succs live from old.seen.items old.found.items c.args.place s rest v (λ l. elim t.else-live-next.branch [
            | else-live-next-via-then-live-next+else-not-index u ↦ sym (get_or_read old.seen.items s u.index.result.now in_seen u.index.ensures false) ∙ u.if-not-index.false
            | else-live-next-via-else-live-next u ↦ absurd (true≢false (sym l ∙ u.if-live-next.false))
          ]))
    ]

pub returns : goal.returns
returns c from w =
    let succs = rows_of c.args.succs.now in
    let xs = c.row_of-next-items.result.now in
    let walk = c.loop-next.self in
    visit_ended succs c.args.live.now from walk.seen.items walk.found.items c.args.place
    (subst (λ ys. IsVisit succs c.args.live.now from walk.seen.items walk.found.items c.args.place ys) (drop_all c.loop-next.next-index xs c.loop-next-test.false) (c.loop-next.invariant from w))
