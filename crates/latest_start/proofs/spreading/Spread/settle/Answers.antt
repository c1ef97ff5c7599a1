use Rattle.std.proofs.Common.{◌≡◌, [], subst, arith}
use Rattle.std.proofs.lemmas.List.{nil_from_length}
use Rattle.std.specs.BinaryHeap.{heap_items}
use Rattle.latest_start.specs.Spread.{IsSpread}
use Rattle.latest_start.proofs.Queueing.{Entries, taken_by_pop, taken_entry}
use Rattle.latest_start.proofs.Settling.{all_consistent, all_listed}
use Rattle.latest_start.proofs.spreading.Spread.settle.Goals as goal

pub restart-requires-clause-node : goal.restart-requires-clause-node
restart-requires-clause-node c =
    let s = c.loop-node.self in
    let v = c.loop-node.invariant in
    let t = taken_by_pop (heap_items s.waiting) (heap_items c.pop.new.self) c.in-Some.field-0-0 c.in-Some.node c.in-Some.ensures.permutation (c.in-Some.ensures.heap_order v.spread.queue.in_order) in
    (taken_entry c.args.graph.now s.queued.items (heap_items s.waiting) (heap_items c.pop.new.self) s.values.items v.top c.in-Some.field-0-0 c.in-Some.node t v.spread.queue).0

pub loop-node-preserved : goal.loop-node-preserved
loop-node-preserved c =
    let s = c.loop-node.self in
    let v = c.loop-node.invariant in
    let t = taken_by_pop (heap_items s.waiting) (heap_items c.pop.new.self) c.in-Some.field-0-0 c.in-Some.node c.in-Some.ensures.permutation (c.in-Some.ensures.heap_order v.spread.queue.in_order) in
    record {
      top = c.in-Some.field-0-0;
      spread = c.in_ok-restart.ensures.step (heap_items s.waiting) v.top c.in-Some.field-0-0 t v.spread;
    }

-- the heap is empty
none_left : (c : goal.In_default) → IsSpread c.args.graph.now c.args.items.now c.args.old.now c.loop-node.self.starts.items c.loop-node.self.queued.items [] c.loop-node.self.values.items [] c.loop-node.invariant.top
none_left c =
    let s = c.loop-node.self in
    let none : heap_items s.waiting ≡ [] = nil_from_length (heap_items s.waiting) (omega (arith, c.in_default.ensures.none, s.waiting.data.ok.0)) in
    subst (λ (h : Entries). IsSpread c.args.graph.now c.args.items.now c.args.old.now s.starts.items s.queued.items h s.values.items [] c.loop-node.invariant.top) none c.loop-node.invariant.spread

pub returns-clause-consistent : goal.returns-clause-consistent
returns-clause-consistent c =
    let s = c.loop-node.self in
    all_consistent c.args.graph.now c.args.items.now c.args.old.now s.starts.items s.queued.items s.values.items c.loop-node.invariant.top (none_left c)

pub returns-clause-values : goal.returns-clause-values
returns-clause-values c =
    let s = c.loop-node.self in
    all_listed c.args.graph.now c.args.items.now c.args.old.now s.starts.items s.queued.items s.values.items c.loop-node.invariant.top (none_left c) c.requires.nodes
