use Rattle.std.proofs.Common.{rules, ◌≡◌, ℤ, subst, sym, ap, ◌∙◌, arith, Some, to_z, of_z, w64, FitsSigned, true≢false}
use Rattle.std.proofs.lemmas.Int.{ints}
use Rattle.std.specs.BinaryHeap.{heap_items}
use Rattle.latest_start.specs.Passes.{IsStartBy}
use Rattle.latest_start.specs.Spread.{IsPut}
use Rattle.latest_start.proofs.Settling.{put_spread, taken_same, taken_changed}
use Rattle.latest_start.proofs.spreading.Spread.restart.Goals as goal

pub returns-in_ok-queue_all-clause-step : goal.returns-in_ok-queue_all-clause-step
returns-in_ok-queue_all-clause-step c before top rank taken h =
    let g = c.args.graph.now in
    let items = c.args.items.now in
    let old = c.args.old.now in
    let n = c.args.node in
    let s = c.args.self.now in
    let v = c.in_ok-start.start in
    let f : FitsSigned w64 v = search rules in
    let same : to_z w64 (of_z w64 v) ≡ v = omega (arith, ints, f) in
    let is = subst (λ xs. IsStartBy g items xs n v) c.deref.ensures.value c.in_ok-start.ensures.start in
    let put : IsPut s n v c.put.new.self = subst (λ (z : ℤ). IsPut s n z c.put.new.self) same c.in_ok-put.ensures in
    c.in_ok-queue_all.ensures.step items old rank
    (put_spread g items old s n v c.put.new.self c.preds.result.now rank put
    (taken_changed g items old s.starts.items s.queued.items before (heap_items s.waiting) s.values.items top rank n taken h v is
    c.preds.ensures.graph (λ there. true≢false (sym (c.has_start.ensures.1 (there ∙ ap Some (sym same))) ∙ c.if-not-has_start.true)) c.preds.result.now c.preds.ensures.preds))

pub returns-else-not-has_start-clause-step : goal.returns-else-not-has_start-clause-step
returns-else-not-has_start-clause-step c before top rank taken h =
    let g = c.args.graph.now in
    let items = c.args.items.now in
    let n = c.args.node in
    let s = c.args.self.now in
    let v = c.in_ok-start.start in
    let f : FitsSigned w64 v = search rules in
    let same : to_z w64 (of_z w64 v) ≡ v = omega (arith, ints, f) in
    let is = subst (λ xs. IsStartBy g items xs n v) c.deref.ensures.value c.in_ok-start.ensures.start in
    taken_same g items c.args.old.now s.starts.items s.queued.items before (heap_items s.waiting) s.values.items top rank n taken h v is
    (c.has_start.ensures.0 c.if-not-has_start.false ∙ ap Some same)
